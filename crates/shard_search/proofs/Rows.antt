-- A row more.
use Rattle.std.proofs.Common.{◌≡◌, ◌≢◌, ℕ, ◌+◌, ◌-◌, ◌<◌, ◌++◌, All, inl, inr, List, length, map, drop, get_or, sym, ◌∙◌, ap, subst, arith, length-append, length-drop}
use Rattle.std.specs.List.{range_with_len, flat_map}
use Rattle.std.proofs.lemmas.Bool.{cases_lt}
use Rattle.std.proofs.lemmas.List.{get_or_append_left, get_or-append_right, get_or-drop}
use Rattle.std.proofs.lemmas.List.FromFn.{length-map-range_with_len, get_or-map-range_with_len}
use Rattle.std.proofs.lemmas.Grind.{same_number_lists}
use Rattle.search_model.specs.declared.search.Search.{Search}
use Rattle.fold_search.specs.FoldSearch.{Fronts, HasDelay, FoldsAlike, KeepsFrontOf}
use Rattle.shard_search.specs.Thresholds.{pulses_of_hits}
use Rattle.shard_search.specs.PulseSearch.{PulseState, SearchesDelay, SearchAlike, WideRowHas, IsHitBelow}
use Rattle.shard_search.specs.Pulses.{first_sums, IsRowOf, pulses_of_delay, pulses_of_end}
use Rattle.shard_search.specs.Sought.{Sought}
use Rattle.shard_search.specs.Sums.{sums_from_delay, HaveTaken}
use Rattle.shard_search.proofs.Ranges.{flat_more}

-- a list of more values of a sequence
pub values_more : (g : ℕ → ℕ) (m n : ℕ) (row : List ℕ) → length row ≡ n →
    ((k : ℕ) → k < n → get_or row k 0 ≡ g (m + k)) →
    map g (range_with_len 0 m) ++ row ≡ map g (range_with_len 0 (m + n))
values_more g m n row long is =
    let front = length-map-range_with_len g 0 m in
    let all = length-map-range_with_len g 0 (m + n) in
    let both = length-append (map g (range_with_len 0 m)) row in
    same_number_lists (map g (range_with_len 0 m) ++ row) (map g (range_with_len 0 (m + n))) (omega arith)
    (λ i inside. elim (cases_lt i m) [
      | inl before ↦
          get_or_append_left (map g (range_with_len 0 m)) row 0 i (omega arith)
          ∙ get_or-map-range_with_len g 0 m i i 0 before (omega arith)
          ∙ sym (get_or-map-range_with_len g 0 (m + n) i i 0 (omega arith) (omega arith))
      | inr past ↦
          get_or-append_right (map g (range_with_len 0 m)) row m i 0 front past
          ∙ is (i - m) (omega arith)
          ∙ ap g (let j : m + (i - m) ≡ i = omega arith in j)
          ∙ sym (get_or-map-range_with_len g 0 (m + n) i i 0 (omega arith) (omega arith))
    ])

pub sums_more : (y : ℕ → ℕ → ℕ) (d m : ℕ) (row : List ℕ) → IsRowOf y d m row →
    first_sums y d m ++ row ≡ first_sums y d (m + length row)
sums_more y d m row is = values_more (y d) m (length row) row (let e : length row ≡ length row = omega arith in e) is

-- those that end at spectrum d and after it
pub later_sums_more : (y : ℕ → ℕ → ℕ) (d m : ℕ) (row : List ℕ) → IsRowOf y d m row →
    sums_from_delay y d m ++ drop (d - m) row ≡ sums_from_delay y d (m + length row)
later_sums_more y d m row is =
    let g : ℕ → ℕ = λ i. y d (d + i) in
    let n = length row in
    let long = length-drop (d - m) row in
    values_more g (m - d) (n - (d - m)) (drop (d - m) row) (omega arith)
    (λ k below. get_or-drop (d - m) row k 0 ∙ is (d - m + k) (omega arith)
    ∙ ap (y d) (let e : m + (d - m + k) ≡ d + (m - d + k) = omega arith in e))
    ∙ ap (λ j. map g (range_with_len 0 j)) (let e : m - d + (n - (d - m)) ≡ m + n - d = omega arith in e)

-- both parts have taken the row of one delay more
pub taken_more : (y : ℕ → ℕ → ℕ) (p p' : PulseState) (g g' : Fronts) (m d : ℕ) (row part : List ℕ) →
    SearchAlike p' p → FoldsAlike g' g → SearchesDelay p d → HasDelay g d → part ≡ drop (d - m) row →
    IsRowOf y d m row →
    ((xs : List ℕ) → WideRowHas p.boxes d xs → WideRowHas p'.boxes d (xs ++ row)) →
    ((e : ℕ) (xs : List ℕ) → SearchesDelay p e → e ≢ d → WideRowHas p.boxes e xs → WideRowHas p'.boxes e xs) →
    ((xs : List ℕ) → KeepsFrontOf g d xs → KeepsFrontOf g' d (xs ++ part)) →
    ((e : ℕ) (xs : List ℕ) → HasDelay g e → e ≢ d → KeepsFrontOf g e xs → KeepsFrontOf g' e xs) →
    ((k : ℕ) → WideRowHas p.boxes d (first_sums y d m) → k < length row →
    pulses_of_hits y p.search p.sought (m + k) p'.hits
    ≡ pulses_of_hits y p.search p.sought (m + k) p.hits ++ pulses_of_delay y p.search p.sought (m + k) d) →
    (WideRowHas p.boxes d (first_sums y d m) → All (IsHitBelow y p.boxes m (length row) d) p.hits →
    All (IsHitBelow y p'.boxes m (length row) (d + 1)) p'.hits) →
    HaveTaken y p g m (length row) d → HaveTaken y p' g' m (length row) (d + 1)
taken_more y p p' g g' m d row part alike same has fold is_part is own others fown fothers hits kept before =
    let n = length row in
    let first = alike.first_is in
    let end = alike.end_is in
    let ffirst = same.first in
    let fend = same.end in
    let old : (e : ℕ) → SearchesDelay p' e → SearchesDelay p e =
    λ e h. record {
      above = (let a = h.above in omega (arith, a, first));
      below = (let b =
          h.below in omega (arith, b, end));
    } in
    let fold_old : (e : ℕ) → HasDelay g' e → HasDelay g e =
    λ e h. record {
      above = (let a = h.above in omega (arith, a, ffirst));
      below = (let b =
          h.below in omega (arith, b, fend));
    } in
    let had : WideRowHas p.boxes d (first_sums y d m) = before.rows_from d has (omega arith) in
    let mine : WideRowHas p'.boxes d (first_sums y d (m + n)) =
    subst (WideRowHas p'.boxes d) (sums_more y d m row is) (own (first_sums y d m) had) in
    let my_fold : KeepsFrontOf g' d (sums_from_delay y d (m + n)) =
    subst (KeepsFrontOf g' d) (ap (λ xs. sums_from_delay y d m ++ xs) is_part ∙ later_sums_more y d m row is)
    (fown (sums_from_delay y d m) (before.folds_from d fold (omega arith))) in
    record {
      rows_below = λ e h below. elim (cases_lt e d) [
        | inl lower ↦ others e (first_sums y e (m + n)) (old e h) (λ q. absurd (omega arith))
            (before.rows_below e (old e h) lower)
        | inr at ↦ let q : d ≡ e = omega arith in
            subst (λ i. WideRowHas p'.boxes i (first_sums y i (m + n))) q mine
      ];
      rows_from = λ e h from. others e (first_sums y e m) (old e h) (λ q. absurd (omega arith))
          (before.rows_from e (old e h) (omega arith));
      folds_below = λ e h below. elim (cases_lt e d) [
        | inl lower ↦ fothers e (sums_from_delay y e (m + n)) (fold_old e h) (λ q. absurd (omega arith))
            (before.folds_below e (fold_old e h) lower)
        | inr at ↦ let q : d ≡ e = omega arith in
            subst (λ i. KeepsFrontOf g' i (sums_from_delay y i (m + n))) q my_fold
      ];
      folds_from = λ e h from. fothers e (sums_from_delay y e m) (fold_old e h) (λ q. absurd (omega arith))
          (before.folds_from e (fold_old e h) (omega arith));
      hits = λ k below.
          let u : ℕ = m + k in
          let above = has.above in
          let all : pulses_of_hits y p.search p.sought u p'.hits
          ≡ pulses_of_end y p.search p.sought p.first (d + 1) u =
          hits k had below
          ∙ ap (λ xs. xs ++ pulses_of_delay y p.search p.sought u d) (before.hits k below)
          ∙ sym (flat_more (λ i. pulses_of_delay y p.search p.sought u i) p.first (d - p.first) d (omega arith))
          ∙ ap (λ j. flat_map (λ i. pulses_of_delay y p.search p.sought u i) (range_with_len p.first j))
          (let e : d - p.first + 1 ≡ d + 1 - p.first = omega arith in e) in
          let S : Search → Type 0 = λ s. pulses_of_hits y s p.sought u p'.hits
          ≡ pulses_of_end y s p.sought p.first (d + 1) u in
          let C : Sought → Type 0 = λ c. pulses_of_hits y p'.search c u p'.hits
          ≡ pulses_of_end y p'.search c p.first (d + 1) u in
          let F : ℕ → Type 0 = λ i. pulses_of_hits y p'.search p'.sought u p'.hits
          ≡ pulses_of_end y p'.search p'.sought i (d + 1) u in
          subst F (sym first) (subst C (sym alike.sought_is) (subst S (sym alike.search_is) all));
      kept = kept had before.kept;
    }
