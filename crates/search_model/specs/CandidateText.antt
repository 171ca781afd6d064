-- The text of a search: a line for each candidate, and the END line.
-- Source: this project's choice.
use Rattle.std.specs.Prelude.{ℕ, ◌+◌, ◌/◌, ◌%◌, ◌^◌, Bool, true, false, List, [], ◌∷◌, ◌++◌, codes, count_by}
use Rattle.std.specs.List.{flat_map}
use Rattle.std.specs.Fmt.{decimal}
use Rattle.search_model.specs.declared.candidate.Candidate.{Candidate}
use Rattle.search_model.specs.declared.candidate.Candidate.TheVariants.{Pulse, Fold}
use Rattle.search_model.specs.Candidates.{plain_cells, cells_of}

-- the three digits of a number below a thousand
abbrev pub three_digits : ℕ → List ℕ
three_digits n = (48 + n / 100) ∷ (48 + n / 10 % 10) ∷ (48 + n % 10) ∷ []

-- a number of thousandths, with a point and three decimals
abbrev pub thousandths : ℕ → List ℕ
thousandths n = decimal (n / 1000) ++ codes "." ++ three_digits (n % 1000)

-- What a line says besides its candidate: the dispersion measure of a delay in thousandths, how many cells a path sum
-- of a delay has, and the first word of the line of a pulse that ends at a spectrum.
pub record Labels : Type 0 where
  pub dm : ℕ → ℕ
  pub cells : ℕ → ℕ
  pub word : ℕ → List ℕ

-- the labels of a search over all of n channels, where the line of each pulse begins with PULSE
abbrev pub plain_labels : (ℕ → ℕ) → ℕ → Labels
plain_labels dm n = record { dm = dm; cells = plain_cells n; word = λ end. codes "PULSE" }

-- the word, the end, the delay, the dispersion measure, the width, the sum, the cells; or
-- FOLD, the delay, the dispersion measure, the period, the rows, the trial, the phase, the sum, the cells
abbrev pub candidate_line : Labels → Candidate → List ℕ
candidate_line l (Pulse end delay width sum) =
    l.word end ++ codes " " ++ decimal end ++ codes " " ++ decimal delay ++ codes " "
    ++ thousandths (l.dm delay) ++ codes " " ++ decimal width ++ codes " " ++ decimal sum
    ++ codes " " ++ decimal (cells_of l.cells (Pulse end delay width sum)) ++ codes "\n"
candidate_line l (Fold delay period halvings trial phase sum) =
    codes "FOLD " ++ decimal delay ++ codes " " ++ thousandths (l.dm delay) ++ codes " "
    ++ decimal period ++ codes " " ++ decimal (2 ^ halvings) ++ codes " " ++ decimal trial
    ++ codes " " ++ decimal phase ++ codes " " ++ decimal sum
    ++ codes " " ++ decimal (cells_of l.cells (Fold delay period halvings trial phase sum))
    ++ codes "\n"

-- the lines of a list
abbrev pub candidate_lines : Labels → List Candidate → List ℕ
candidate_lines l list = flat_map (candidate_line l) list

-- END, how many pulses, how many folds, how many spectra
abbrev pub end_line : ℕ → ℕ → ℕ → List ℕ
end_line pulses folds spectra =
    codes "END " ++ decimal pulses ++ codes " " ++ decimal folds ++ codes " " ++ decimal spectra
    ++ codes "\n"

abbrev pub is_pulse : Candidate → Bool
is_pulse (Pulse _ _ _ _) = true
is_pulse (Fold _ _ _ _ _ _) = false

abbrev pub is_fold : Candidate → Bool
is_fold (Pulse _ _ _ _) = false
is_fold (Fold _ _ _ _ _ _) = true

-- the text of a list of candidates over so many spectra
abbrev pub candidate_text : Labels → ℕ → List Candidate → List ℕ
candidate_text l spectra list =
    candidate_lines l list ++ end_line (count_by is_pulse list) (count_by is_fold list) spectra
