-- A row that is taken without being made.
use Rattle.std.proofs.Common.{◌≡◌, ◌≢◌, ℕ, ◌+◌, ◌-◌, ◌<◌, ◌++◌, All, List, [], length, drop, refl, sym, ◌∙◌, ap, subst, arith, append-nil}
use Rattle.box_sums.specs.Tails.{IsKept}
use Rattle.fold_search.specs.FoldSearch.{Fronts, HasDelay, KeepsFrontOf}
use Rattle.shard_search.specs.declared.thresholds.Hit.{Hit}
use Rattle.shard_search.specs.Thresholds.{pulses_of_hits}
use Rattle.shard_search.specs.PulseSearch.{PulseState, SearchAlike, SearchesDelay, WideRowHas, IsHitBelow}
use Rattle.shard_search.specs.Pulses.{IsRowOf, first_sums, pulses_of_delay}
use Rattle.shard_search.specs.Sums.{HaveTaken}
use Rattle.shard_search.proofs.Rows.{taken_more}

-- no pulse ends at its sums, and no fold keeps anything of it
pub taken_quietly : (y : ℕ → ℕ → ℕ) (p q : PulseState) (g : Fronts) (m d : ℕ) (row : List ℕ) → SearchAlike q p →
    q.hits ≡ p.hits → SearchesDelay p d → HasDelay g d → IsRowOf y d m row →
    ((xs : List ℕ) → WideRowHas p.boxes d xs → WideRowHas q.boxes d (xs ++ row)) →
    ((e : ℕ) (xs : List ℕ) → SearchesDelay p e → e ≢ d → WideRowHas p.boxes e xs → WideRowHas q.boxes e xs) →
    ((xs ys : List ℕ) → KeepsFrontOf g d xs → KeepsFrontOf g d ys) →
    ((k : ℕ) → WideRowHas p.boxes d (first_sums y d m) → k < length row →
    pulses_of_delay y p.search p.sought (m + k) d ≡ []) →
    ((e n : ℕ) (xs : List ℕ) → IsKept p.boxes e n xs → IsKept q.boxes e n xs) →
    HaveTaken y p g m (length row) d → HaveTaken y q g m (length row) (d + 1)
taken_quietly y p q g m d row alike same has fold is own others unkept quiet kept before =
    taken_more y p q g g m d row (drop (d - m) row) alike
    (record { search = refl; first = refl; end = refl; bound = refl }) has fold refl is own others
    (λ xs front. unkept xs (xs ++ drop (d - m) row) front) (λ e xs h apart front. front)
    (λ k had below.
    let hits = pulses_of_hits y p.search p.sought (m + k) p.hits in
    ap (λ (hs : List Hit). pulses_of_hits y p.search p.sought (m + k) hs) same
    ∙ sym (ap (λ xs. hits ++ xs) (quiet k had below) ∙ append-nil hits))
    (λ had all. subst (λ (hs : List Hit). All (IsHitBelow y q.boxes m (length row) (d + 1)) hs) (sym same)
    (λ i h inside.
    let hit = all i h inside in
    let early = hit.delay in
    record { delay = omega (arith, early); kept = kept _ (length row) _ hit.kept }))
    before
