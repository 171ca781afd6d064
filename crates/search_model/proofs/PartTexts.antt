-- The texts of parts, one after another.
use Rattle.std.proofs.Common.{◌≡◌, ℕ, ◌+◌, ◌<◌, ◌≤◌, inl, inr, true, false, cond, leb, ltb, List, ◌++◌, length, count_by, refl, sym, ap, ◌∙◌, arith}
use Rattle.std.specs.Prelude.{Contains}
use Rattle.std.proofs.lemmas.Bool.{cases_lt, and_parts, and_from, leb-true, le-leb, ltb-true, lt-ltb, le-ltb, cond-false, false≢true}
use Rattle.std.proofs.lemmas.List.{append_assoc, length-append}
use Rattle.std.proofs.lemmas.List.Concat.{flat_map-append}
use Rattle.std.proofs.lemmas.List.Elements.{Contains-append_left, Contains-append_right, Contains-append_cases}
use Rattle.std.proofs.lemmas.List.Kept.{AllPairs-filter}
use Rattle.std.proofs.lemmas.List.Sums.{length-filter}
use Rattle.search_model.specs.declared.candidate.Candidate.{Candidate}
use Rattle.search_model.specs.declared.candidate.Candidate.TheVariants.{Pulse, Fold}
use Rattle.search_model.specs.declared.search.Search.{Search}
use Rattle.search_model.specs.Samples.{Filterbank}
use Rattle.search_model.specs.Candidates.{candidates}
use Rattle.search_model.specs.CandidateLaws.{IsCandidate}
use Rattle.search_model.specs.CandidateText.{Labels, candidate_line, candidate_lines, is_pulse, is_fold, end_line, candidate_text}
use Rattle.search_model.specs.Order.{Precedes, IsRising}
use Rattle.search_model.specs.Parts.{ends_within, within_part, check_line, part_text}
use Rattle.search_model.proofs.Listed.{candidate_listed}
use Rattle.search_model.proofs.Lists.{member_filter, filter_member, pairs_append, filter_all, filter_none}
use Rattle.search_model.proofs.Order.{rising_same}

-- ---- two parts

test_within : (place until : ℕ) (c : Candidate) → ends_within place until c ≡ true →
    (end : ℕ) × (place ≤ end) × (end < until) × ((a b : ℕ) → a ≤ end → end < b → ends_within a b c ≡ true)
test_within place until (Pulse end delay width sum) e =
    let both = and_parts (leb place end) (ltb end until) e in (
      end,
      leb-true place end both.0,
      ltb-true end until both.1,
      λ a b from to. and_from (leb a end) (ltb end b) (le-leb a end from) (lt-ltb end b to),
    )
test_within place until (Fold delay period halvings trial phase sum) e = absurd (false≢true e)

-- a pulse that ends before the cut precedes one that ends from it on
cut_precedes : (place cut until : ℕ) (x y : Candidate) → ends_within place cut x ≡ true →
    ends_within cut until y ≡ true → Precedes x y
cut_precedes place cut until (Pulse end delay width sum) (Pulse other delay' width' sum') first second =
    let before = ltb-true end cut (and_parts (leb place end) (ltb end cut) first).1 in
    let from = leb-true cut other (and_parts (leb cut other) (ltb other until) second).0 in
    inl (omega arith)
cut_precedes place cut until (Pulse end delay width sum) (Fold a b c d e g) first second = tt
cut_precedes place cut until (Fold a b c d e g) y first second = absurd (false≢true first)

module _ (list : List Candidate) (place cut until : ℕ) (rising : IsRising list) (first : place ≤ cut)
    (second : cut ≤ until) where
  both_rise : IsRising (within_part place cut list ++ within_part cut until list)
  both_rise =
      pairs_append Precedes (within_part place cut list) (within_part cut until list)
      (AllPairs-filter Precedes (ends_within place cut) list rising)
      (AllPairs-filter Precedes (ends_within cut until) list rising)
      (λ x y hx hy.
      cut_precedes place cut until x y (member_filter (ends_within place cut) list x hx).0
      (member_filter (ends_within cut until) list y hy).0)

  of_both : (c : Candidate) → Contains (within_part place cut list ++ within_part cut until list) c →
      Contains (within_part place until list) c
  of_both c h = elim (Contains-append_cases (within_part place cut list) (within_part cut until list) c h) [
    | inl before ↦
        let is = member_filter (ends_within place cut) list c before in
        let at = test_within place cut c is.0 in
        let to = at.2 in
        filter_member (ends_within place until) list c (at.3 place until at.1 (omega arith)) is.1
    | inr after ↦
        let is = member_filter (ends_within cut until) list c after in
        let at = test_within cut until c is.0 in
        let from = at.1 in
        filter_member (ends_within place until) list c (at.3 place until (omega arith) at.2) is.1
  ]

  to_both : (c : Candidate) → Contains (within_part place until list) c →
      Contains (within_part place cut list ++ within_part cut until list) c
  to_both c h =
      let is = member_filter (ends_within place until) list c h in
      let at = test_within place until c is.0 in
      elim (cases_lt at.0 cut) [
        | inl before ↦
            Contains-append_left (within_part place cut list) (within_part cut until list) c
            (filter_member (ends_within place cut) list c (at.3 place cut at.1 before) is.1)
        | inr after ↦
            Contains-append_right (within_part place cut list) (within_part cut until list) c
            (filter_member (ends_within cut until) list c (at.3 cut until after at.2) is.1)
      ]

  pub both_parts : within_part place cut list ++ within_part cut until list ≡ within_part place until list
  both_parts =
      rising_same (within_part place cut list ++ within_part cut until list) (within_part place until list) both_rise
      (AllPairs-filter Precedes (ends_within place until) list rising) (λ c. (of_both c, to_both c))

-- the last line of a text
abbrev last_line : ℕ → ℕ → ℕ → List ℕ
last_line spectra until pulses = cond (ltb until spectra) (check_line until pulses) (end_line pulses 0 spectra)

pub next_text : (l : Labels) (spectra : ℕ) (list : List Candidate) (place cut until before : ℕ) → IsRising list →
    place ≤ cut → cut ≤ until →
    candidate_lines l (within_part place cut list)
    ++ part_text l spectra cut until (before + length (within_part place cut list)) list
    ≡ part_text l spectra place until before list
next_text l spectra list place cut until before rising first second =
    let xs = within_part place cut list in
    let ys = within_part cut until list in
    let both = both_parts list place cut until rising first second in
    let lines : candidate_lines l xs ++ candidate_lines l ys ≡ candidate_lines l (within_part place until list) =
    sym (flat_map-append (candidate_line l) xs ys) ∙ ap (candidate_lines l) both in
    let long = length-append xs ys in
    let count : before + length xs + length ys ≡ before + length (xs ++ ys) = omega arith in
    let pulses : before + length xs + length ys ≡ before + length (within_part place until list) =
    count ∙ ap (λ part. before + length part) both in
    sym (append_assoc (candidate_lines l xs) (candidate_lines l ys)
    (last_line spectra until (before + length xs + length ys)))
    ∙ ap (λ text. text ++ last_line spectra until (before + length xs + length ys)) lines
    ∙ ap (λ n. candidate_lines l (within_part place until list) ++ last_line spectra until n) pulses

-- ---- the whole

module _ (f : Filterbank) (edges : List ℕ) (cells : ℕ → ℕ) (s : Search) (off : s.fold_max < s.fold_min) where
  -- where nothing is folded, a candidate is a pulse that ends within the data
  record IsPulseWithin (until : ℕ) (c : Candidate) : Type 0 where
    ends : ends_within 0 until c ≡ true
    pulse : is_pulse c ≡ true
    fold : is_fold c ≡ false

  candidate_within : (until : ℕ) → f.spectra ≤ until → (c : Candidate) → IsCandidate f edges cells s c →
      IsPulseWithin until c
  candidate_within until all (Pulse end delay width sum) is =
      let ends = is.ends in
      record {
        ends = and_from (leb 0 end) (ltb end until) (le-leb 0 end (omega arith)) (lt-ltb end until (omega arith));
        pulse = refl;
        fold = refl;
      }
  candidate_within until all (Fold delay period halvings trial phase sum) is =
      let from = is.period_from in
      let to = is.period_to in
      absurd (omega arith)

  pub whole_text : (l : Labels) (until : ℕ) → f.spectra ≤ until →
      part_text l f.spectra 0 until 0 (candidates f edges cells s)
      ≡ candidate_text l f.spectra (candidates f edges cells s)
  whole_text l until all =
      let list = candidates f edges cells s in
      let each = λ (c : Candidate) (h : Contains list c).
      candidate_within until all c ((candidate_listed f edges cells s c).0 h) in
      let part : within_part 0 until list ≡ list =
      filter_all (ends_within 0 until) list (λ c h. (each c h).ends) in
      let pulses : length list ≡ count_by is_pulse list =
      sym (ap length (filter_all is_pulse list (λ c h. (each c h).pulse))) ∙ length-filter is_pulse list in
      let folds : 0 ≡ count_by is_fold list =
      sym (ap length (filter_none is_fold list (λ c h. (each c h).fold))) ∙ length-filter is_fold list in
      let none : 0 + length list ≡ count_by is_pulse list = omega arith in
      ap (λ some. candidate_lines l some ++ last_line f.spectra until (0 + length some)) part
      ∙ ap (λ text. candidate_lines l list ++ text)
      (cond-false (ltb until f.spectra) (check_line until (0 + length list)) (end_line (0 + length list) 0 f.spectra)
      (le-ltb until f.spectra all)
      ∙ ap (λ n. end_line n 0 f.spectra) none
      ∙ ap (λ n. end_line (count_by is_pulse list) n f.spectra) folds)
