-- The hits of a row.
use Rattle.std.proofs.Common.{◌≡◌, ◌≢◌, ℕ, ◌+◌, ◌<◌, ◌≤◌, ◌++◌, All, List, Option, length, get_or, sym, ◌∙◌, ap, subst, arith, append_assoc, length-append}
use Rattle.std.specs.Prelude.{option_to_list, IfSome}
use Rattle.std.proofs.lemmas.List.Elements.{All-append}
use Rattle.box_sums.specs.Tails.{RowTails, IsKept, KeepsRow}
use Rattle.search_model.specs.declared.search.Search.{Search}
use Rattle.shard_search.specs.declared.thresholds.Hit.{Hit}
use Rattle.shard_search.specs.declared.thresholds.BoxThresholds.{BoxThresholds}
use Rattle.shard_search.specs.Thresholds.{AreThresholds, IsHit, pulses_of_hits}
use Rattle.shard_search.specs.PulseSearch.{PulseState, AddsHitsOf, CanBeWide, CanJudge, HasBoxes, IsHitBelow}
use Rattle.shard_search.specs.Pulses.{first_sums, pulses_of_delay}
use Rattle.shard_search.specs.Sought.{Sought}
use Rattle.shard_search.proofs.Pieces.{all_noted}
use Rattle.shard_search.proofs.WidthCounts.{are_widths, are_narrow}
use Rattle.shard_search.proofs.WidthLists.{places_within}

-- the thresholds of a search can judge the boxes of each of its delays
pub can_judge : (s : Search) (c : Sought) (first end d : ℕ) (thresholds : BoxThresholds) (b : RowTails) →
    AreThresholds s c first end thresholds → b.widest ≡ s.widest → first ≤ d → d < end →
    CanJudge b first d thresholds
can_judge s c first end d thresholds b are widest from below = record {
  above = from;
  inside = (let count = are.count in
      let within = places_within (length thresholds.widths.items) first d end from below in
      omega (arith, count, within));
  widths = subst (All (CanBeWide b)) (sym are.widths_are) (λ i w inside. record {
    width = are_widths s i w inside;
    within = (let narrow = are_narrow s i w inside in omega (arith, narrow, widest));
  });
}

-- one more, or none
pub one_noted : (d : ℕ) (start before : List Hit) (o : Option Hit) → AddsHitsOf d start before →
    IfSome o (λ (hit : Hit). hit.delay ≡ d) → AddsHitsOf d start (before ++ option_to_list o)
one_noted d start before o adds own = record {
  more = adds.more ++ option_to_list o;
  grown = ap (λ xs. xs ++ option_to_list o) adds.grown ∙ append_assoc start adds.more (option_to_list o);
  own = all_noted (λ (hit : Hit). hit.delay ≡ d) adds.more o adds.own own;
}

-- the boxes keep the row of a hit
pub keeps_hit : (s : Search) (c : Sought) (first end : ℕ) (b : RowTails) (hit : Hit) → HasBoxes s first end b →
    IsHit s c first end hit → KeepsRow b hit.delay
keeps_hit s c first end b hit has is = record {
  above = (let above = is.above in let row = has.first_row in omega (arith, above, row));
  below = (let below = is.below in let row = has.last_row in omega (arith, below, row));
}

-- hits of delay d were added, whose row is kept, and so are those of the hits before
pub kept_more : (y : ℕ → ℕ → ℕ) (b b' : RowTails) (m n d : ℕ) (old new : List Hit) → AddsHitsOf d old new →
    All (λ (hit : Hit). KeepsRow b hit.delay) old → All (IsHitBelow y b m n d) old →
    ((e : ℕ) → KeepsRow b e → e ≢ d → IsKept b e n (first_sums y e (m + n)) → IsKept b' e n (first_sums y e (m + n))) →
    IsKept b' d n (first_sums y d (m + n)) → All (IsHitBelow y b' m n (d + 1)) new
kept_more y b b' m n d old new adds rows before others mine =
    let P : Hit → Type 0 = IsHitBelow y b' m n (d + 1) in
    subst (All P) (sym adds.grown)
    (All-append P old adds.more
    (λ i h inside.
    let hit = before i h inside in
    let early = hit.delay in
    record {
      delay = omega (arith, early);
      kept = others (get_or old i h).delay (rows i h inside) (λ same. absurd (omega (arith, early, same))) hit.kept;
    })
    (λ i h inside.
    let same = adds.own i h inside in
    record {
      delay = omega (arith, same);
      kept = subst (λ (e : ℕ). IsKept b' e n (first_sums y e (m + n))) (sym same) mine;
    }))

-- none was added
pub kept_same : (y : ℕ → ℕ → ℕ) (b b' : RowTails) (m n d : ℕ) (old new : List Hit) → AddsHitsOf d old new →
    length new ≤ length old → All (IsHitBelow y b m n d) old →
    ((e : ℕ) → IsKept b e n (first_sums y e (m + n)) → IsKept b' e n (first_sums y e (m + n))) →
    All (IsHitBelow y b' m n (d + 1)) new
kept_same y b b' m n d old new adds few before same =
    let grown = ap (λ (xs : List Hit). length xs) adds.grown in
    let both = length-append old adds.more in
    let P : Hit → Type 0 = IsHitBelow y b' m n (d + 1) in
    subst (All P) (sym adds.grown)
    (All-append P old adds.more
    (λ i h inside.
    let hit = before i h inside in
    let early = hit.delay in
    record { delay = omega (arith, early); kept = same (get_or old i h).delay hit.kept })
    (λ i h inside. absurd (omega (arith, inside, grown, both, few))))

-- what is noted of a row are its pulses, as contracts see them
pub row_pulses : (y : ℕ → ℕ → ℕ) (s : Search) (c : Sought) (u d : ℕ) (old new : List Hit) (p : PulseState) →
    pulses_of_hits y s c u new ≡ pulses_of_hits y s c u old ++ pulses_of_delay y s c u d →
    s ≡ p.search → c ≡ p.sought → old ≡ p.hits →
    pulses_of_hits y p.search p.sought u new
    ≡ pulses_of_hits y p.search p.sought u p.hits ++ pulses_of_delay y p.search p.sought u d
row_pulses y s c u d old new p noted search sought hits =
    let S : Search → Type 0 =
    λ t. pulses_of_hits y t c u new ≡ pulses_of_hits y t c u old ++ pulses_of_delay y t c u d in
    let C : Sought → Type 0 = λ x. pulses_of_hits y p.search x u new
    ≡ pulses_of_hits y p.search x u old ++ pulses_of_delay y p.search x u d in
    let H : List Hit → Type 0 = λ xs. pulses_of_hits y p.search p.sought u new
    ≡ pulses_of_hits y p.search p.sought u xs ++ pulses_of_delay y p.search p.sought u d in
    subst H hits (subst C sought (subst S search noted))
