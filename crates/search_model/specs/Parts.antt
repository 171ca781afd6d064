-- A part of a search: the pulses that end from a spectrum on and before another one, as they are found by a search that
-- stops and is taken up again later, and its text; functions of this crate carry their laws.
-- Source: this project's choice.
use Rattle.std.specs.Prelude.{◌≡◌, ℕ, ◌+◌, ◌-◌, ◌<◌, ◌≤◌, ◌&&◌, Bool, false, List, ◌++◌, map, filter, length, nat_le, nat_lt, if◌then◌else◌, codes}
use Rattle.std.specs.List.{range_with_len, flat_map}
use Rattle.std.specs.Fmt.{decimal}
use Rattle.search_model.specs.declared.candidate.Candidate.{Candidate}
use Rattle.search_model.specs.declared.candidate.Candidate.TheVariants.{Pulse, Fold}
use Rattle.search_model.specs.declared.search.Search.{Search}
use Rattle.search_model.specs.Samples.{Filterbank}
use Rattle.search_model.specs.Candidates.{pulses_ending, candidates}
use Rattle.search_model.specs.CandidateText.{Labels, candidate_lines, end_line, candidate_text}
use Rattle.search_model.specs.Order.{IsRising}

-- whether a candidate is a pulse that ends at `place` or after it, and before `until`
abbrev pub ends_within : ℕ → ℕ → Candidate → Bool
ends_within place until (Pulse end _ _ _) = nat_le place end && nat_lt end until
ends_within place until (Fold _ _ _ _ _ _) = false

-- the part of a candidate list from `place` until `until`
abbrev pub within_part : ℕ → ℕ → List Candidate → List Candidate
within_part place until list = filter (ends_within place until) list

-- CHECK, the spectrum that the part stops before, and how many pulses end before it
abbrev pub check_line : ℕ → ℕ → List ℕ
check_line until pulses =
    codes "CHECK " ++ decimal until ++ codes " " ++ decimal pulses ++ codes "\n"

-- The text of a part of a list over so many spectra, where `before` pulses end before the part: its lines; then the
-- CHECK line where more spectra follow, and else the END line, which counts the pulses from the first spectrum on.
abbrev pub part_text : Labels → ℕ → ℕ → ℕ → ℕ → List Candidate → List ℕ
part_text l spectra place until before list =
    let part = within_part place until list in
    let pulses = before + length part in
    candidate_lines l part
    ++ (if nat_lt until spectra then check_line until pulses else end_line pulses 0 spectra)

-- the first spectrum that is needed for the pulses that end at `place` and after it
abbrev pub first_needed : Search → ℕ → ℕ
first_needed s place = place - (s.max_delay + s.widest)

-- the spectra from spectrum a on
abbrev pub without_first : ℕ → Filterbank → Filterbank
without_first a f = record {
  channels = f.channels;
  spectra = f.spectra - a;
  value = λ c t. f.value c (a + t);
}

-- what is found in them, with its end as the whole counts it
abbrev pub later : ℕ → Candidate → Candidate
later a (Pulse end delay width sum) = Pulse (a + end) delay width sum
later a (Fold delay period halvings trial phase sum) = Fold delay period halvings trial phase sum

-- the pulses of any ends from `place` on, and so the part from `place` on, are found in the spectra from
-- `first_needed s place` on
pub record PartsNeedNoMore : Type 0 where
  pub ends : (f : Filterbank) (edges : List ℕ) (cells : ℕ → ℕ) (s : Search)
      (place count : ℕ) →
      let a = first_needed s place in
      flat_map (pulses_ending f edges cells s) (range_with_len place count)
      ≡ map (later a)
      (flat_map (pulses_ending (without_first a f) edges cells s)
      (range_with_len (place - a) count))
  pub part : (f : Filterbank) (edges : List ℕ) (cells : ℕ → ℕ) (s : Search)
      (place until : ℕ) →
      let a = first_needed s place in
      within_part place until (candidates f edges cells s)
      ≡ map (later a)
      (within_part (place - a) (until - a) (candidates (without_first a f) edges cells s))

-- A part is the part up to a cut and then the part from the cut on. So the lines of the first, and then the text of the
-- second, which counts on from the first, are the text of both; and the text of the part that has all spectra is the
-- candidate text, where nothing is folded.
pub record PartsJoin : Type 0 where
  pub parts : (list : List Candidate) (place cut until : ℕ) → IsRising list →
      place ≤ cut → cut ≤ until →
      within_part place cut list ++ within_part cut until list ≡ within_part place until list
  pub next : (l : Labels) (spectra : ℕ) (list : List Candidate) (place cut until before : ℕ) →
      IsRising list → place ≤ cut → cut ≤ until →
      candidate_lines l (within_part place cut list)
      ++ part_text l spectra cut until (before + length (within_part place cut list)) list
      ≡ part_text l spectra place until before list
  pub whole : (l : Labels) (f : Filterbank) (edges : List ℕ) (cells : ℕ → ℕ) (s : Search)
      (until : ℕ) →
      s.fold_max < s.fold_min → f.spectra ≤ until →
      part_text l f.spectra 0 until 0 (candidates f edges cells s)
      ≡ candidate_text l f.spectra (candidates f edges cells s)
