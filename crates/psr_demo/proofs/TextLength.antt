-- How long the text of a search can be.
use Rattle.std.proofs.Common.{ℕ, ◌+◌, ◌*◌, ◌/◌, ◌%◌, ◌^◌, ◌<◌, ◌≤◌, List, [], ◌∷◌, ◌++◌, length, Contains, arith, rules, lit≤}
use Rattle.std.specs.Prelude.{codes, count_by}
use Rattle.std.specs.Fmt.{decimal}
use Rattle.std.proofs.lemmas.List.{length-append}
use Rattle.std.proofs.lemmas.List.Concat.{flat_map-cons}
use Rattle.std.proofs.lemmas.List.Elements.{Contains-append_right}
use Rattle.std.proofs.lemmas.List.Sums.{count_by-le-length}
use Rattle.std.proofs.lemmas.Fmt.{length-decimal-le}
use Rattle.search_model.specs.declared.candidate.Candidate.{Candidate}
use Rattle.search_model.specs.declared.candidate.Candidate.TheVariants.{Pulse, Fold}
use Rattle.search_model.specs.CandidateText.{three_digits, thousandths, candidate_line, candidate_lines, end_line, is_pulse, is_fold, candidate_text, plain_labels}

-- ---- texts

-- a text has so many bytes at most
record IsWithin (text : List ℕ) (most : ℕ) : Type 0 where
  pub long : length text ≤ most

join : {xs ys : List ℕ} {a b : ℕ} → IsWithin xs a → IsWithin ys b → IsWithin (xs ++ ys) (a + b)
join {xs} {ys} first second = record {
  long = let one = first.long in let two = second.long in rw (length-append xs ys) (omega (arith, one, two));
}

-- a number below 10^10 has at most ten digits
number : (n : ℕ) → n < 10 ^ 10 → IsWithin (decimal n) 10
number n small = record { long = length-decimal-le 10 n (omega arith) small (omega (arith, small)) }

space : IsWithin (codes " ") 1
space = record { long = lit≤ tt }

feed : IsWithin (codes "\n") 1
feed = record { long = lit≤ tt }

decimals : (n : ℕ) → n / 1000 < 10 ^ 10 → IsWithin (thousandths n) 14
decimals n small =
    let point : IsWithin (codes ".") 1 = record { long = lit≤ tt } in
    let three : IsWithin (three_digits (n % 1000)) 3 = record { long = lit≤ tt } in
    join (join (number (n / 1000) small) point) three

-- ---- lines

-- the numbers of a pulse's line
pub record IsShort (dm : ℕ → ℕ) (channels end delay width sum : ℕ) : Type 0 where
  pub ends : end < 10 ^ 10
  pub delays : delay < 10 ^ 10
  pub disperses : dm delay / 1000 < 10 ^ 10
  pub widths : width < 10 ^ 10
  pub sums : sum < 10 ^ 10
  pub cells : width * (channels + delay) < 10 ^ 10

-- a pulse whose numbers are short
abbrev pub IsShortPulse : (ℕ → ℕ) → ℕ → Candidate → Type 0
IsShortPulse dm channels (Pulse end delay width sum) = IsShort dm channels end delay width sum
IsShortPulse dm channels (Fold delay period halvings trial phase sum) = ⊥

line_length : (dm : ℕ → ℕ) (n : ℕ) (c : Candidate) → IsShortPulse dm n c →
    length (candidate_line (plain_labels dm n) c) ≤ 83
line_length dm n (Pulse end delay width sum) h =
    let name : IsWithin (codes "PULSE") 5 = record { long = lit≤ tt } in
    let ended = join (join name space) (number end h.ends) in
    let delayed = join (join ended space) (number delay h.delays) in
    let dispersed = join (join delayed space) (decimals (dm delay) h.disperses) in
    let wide = join (join dispersed space) (number width h.widths) in
    let added = join (join wide space) (number sum h.sums) in
    let counted = join (join added space) (number (width * (n + delay)) h.cells) in
    let whole = (join counted feed).long in
    omega (arith, whole)
line_length dm n (Fold delay period halvings trial phase sum) h = absurd h

-- ---- lists

contains_head : (c : Candidate) (list : List Candidate) → Contains (c ∷ list) c
contains_head c list = search rules

contains_tail : (c d : Candidate) (list : List Candidate) → Contains list d → Contains (c ∷ list) d
contains_tail c d list h = Contains-append_right (c ∷ []) list d h

lines_length : (dm : ℕ → ℕ) (n : ℕ) (list : List Candidate) →
    ((c : Candidate) → Contains list c → IsShortPulse dm n c) →
    IsWithin (candidate_lines (plain_labels dm n) list) (83 * length list)
lines_length dm n [] short = record { long = lit≤ tt }
lines_length dm n (c ∷ list) short =
    let l = plain_labels dm n in
    let first : IsWithin (candidate_line l c) 83 =
    record { long = line_length dm n c (short c (contains_head c list)) } in
    let more = lines_length dm n list (λ d h. short d (contains_tail c d list h)) in
    let both = (join first more).long in
    record { long = rw (flat_map-cons (candidate_line l) c list) (omega (arith, both)) }

end_length : (pulses folds spectra : ℕ) → pulses < 10 ^ 10 → folds < 10 ^ 10 → spectra < 10 ^ 10 →
    IsWithin (end_line pulses folds spectra) 37
end_length pulses folds spectra some_pulses some_folds some_spectra =
    let name : IsWithin (codes "END ") 4 = record { long = lit≤ tt } in
    let first = join (join name (number pulses some_pulses)) space in
    let second = join (join first (number folds some_folds)) space in
    join (join second (number spectra some_spectra)) feed

-- a text of so many candidates
pub text_length : (dm : ℕ → ℕ) (n spectra : ℕ) (list : List Candidate) →
    ((c : Candidate) → Contains list c → IsShortPulse dm n c) → spectra < 10 ^ 10 → length list ≤ 100000 →
    length (candidate_text (plain_labels dm n) spectra list) ≤ 8388608
text_length dm n spectra list short few_spectra few =
    let lines = lines_length dm n list short in
    let pulses = count_by-le-length is_pulse list in
    let folds = count_by-le-length is_fold list in
    let end = end_length (count_by is_pulse list) (count_by is_fold list) spectra (omega (arith, pulses, few))
    (omega (arith, folds, few)) few_spectra in
    let both = (join lines end).long in
    omega (arith, both, few)
