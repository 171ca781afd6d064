-- Rows of which no box is detected.
use Rattle.std.proofs.Common.{◌≡◌, ℕ, ◌+◌, ◌*◌, ◌^◌, ◌<◌, ◌≤◌, List, [], Option, Some, length, slice_get, slice_index, sym, ◌∙◌, ap, subst, arith}
use Rattle.std.proofs.lemmas.Simd.{get_or-zip2, length-zip2}
use Rattle.box_sums.specs.Rows.{SumsAddValues, ending_in_feed}
use Rattle.box_sums.specs.Tails.{CanFeedHalves, StandsForRow}
use Rattle.detect_rule.specs.Noise.{StandOutFrom}
use Rattle.fold_search.specs.Judging.{noise_of}
use Rattle.row_schedule.specs.declared.halves.Halves.{Halves}
use Rattle.row_schedule.specs.Halves.{HaveLength, half_sum}
use Rattle.search_model.specs.Laws.{TestsDetection}
use Rattle.search_model.specs.declared.search.Search.{Search}
use Rattle.search_model.specs.Search.{widths}
use Rattle.shard_search.specs.declared.thresholds.BoxThresholds.{BoxThresholds}
use Rattle.shard_search.specs.PulseSearch.{PulseState, PulsesAreSound, CanTakeHalves, WideRowHas, half_row}
use Rattle.shard_search.specs.Pulses.{IsRowOf, first_sums, pulses_of_delay}
use Rattle.shard_search.specs.Sought.{cells_in}
use Rattle.shard_search.proofs.Boxes.{box_in_feed}
use Rattle.shard_search.proofs.WidthCounts.{widths_few, are_narrow, width_at, quiet_widths}

-- ---- halves

-- as many sums as values in each half
pub half_length : (halves : Halves) → HaveLength (length halves.upper.now) halves →
    length (half_row halves) ≡ length halves.upper.now
half_length halves long = length-zip2 (λ x y. x + y) halves.upper.now halves.lower.now (sym long.lower)

-- one is the sum of both at its place
pub half_at : (halves : Halves) (k : ℕ) → HaveLength (length halves.upper.now) halves →
    k < length (half_row halves) → slice_index (half_row halves) k ≡ half_sum halves k
half_at halves k long lt =
    let many = half_length halves long in
    let both = long.lower in
    get_or-zip2 (λ x y. x + y) halves.upper.now halves.lower.now k 0 0 0 (omega (arith, many, lt))
    (omega (arith, many, both, lt))

-- so the sums of a stream are below what is above the bound of the halves
pub half_below : (y : ℕ → ℕ → ℕ) (d m k bound least : ℕ) (halves : Halves) →
    HaveLength (length halves.upper.now) halves → IsRowOf y d m (half_row halves) → k < length (half_row halves) →
    half_sum halves k ≤ bound → bound < least → y d (m + k) < least
half_below y d m k bound least halves long is lt small below =
    let value = sym (is k lt) ∙ half_at halves k long lt in
    omega (arith, value, small, below)

-- ---- wide boxes

level_within : (s : Search) (level : ℕ) → level < length (widths s) → 2 ^ level ≤ s.widest
level_within s level lt = subst (λ w. w ≤ s.widest) (width_at s level lt) (are_narrow s level 0 lt)

-- halves that can be taken can be fed to the boxes
pub can_feed : (p q : PulseState) (t : BoxThresholds) (room d : ℕ) (halves : Halves) (leasts : List (Option ℕ)) →
    q ≡ p → PulsesAreSound q t room → CanTakeHalves p d halves → 1 < q.search.widest →
    length leasts ≡ length t.widths.items → CanFeedHalves q.boxes d halves.upper.now halves.lower.now leasts
can_feed p q t room d halves leasts seen sound can wide long =
    let h : CanTakeHalves q d halves = subst (λ (r : PulseState). CanTakeHalves r d halves) (sym seen) can in
    let widest = sound.boxes.widest in
    let count = long ∙ ap (λ (ws : List ℕ). length ws) sound.thresholds_are.widths_are in
    record {
      row = record {
        above = (let above = h.delay.above in let row = sound.boxes.first_row in omega (arith, above, row));
        below = (let below = h.delay.below in let row = sound.boxes.last_row in omega (arith, below, row));
      };
      wide = omega (arith, wide, widest);
      same = h.long.lower;
      short = h.short;
      small = h.small;
      few = (let few = widths_few q.search in omega (arith, few, count));
      within = λ level lt.
          let within = level_within q.search level (omega (arith, lt, count)) in
          omega (arith, within, widest);
    }

-- the values that were fed of a row, where boxes are wide
pub fed_before : (y : ℕ → ℕ → ℕ) (p q : PulseState) (t : BoxThresholds) (room d m : ℕ) → q ≡ p →
    PulsesAreSound q t room → 1 < q.search.widest → WideRowHas p.boxes d (first_sums y d m) →
    StandsForRow q.boxes d (first_sums y d m)
fed_before y p q t room d m seen sound wide has =
    let widest = sound.boxes.widest in
    subst (λ (r : PulseState). WideRowHas r.boxes d (first_sums y d m)) (sym seen) has (omega (arith, wide, widest))

-- no pulse of a delay ends at a sum where each box in the feed is below the least sum of its width
pub quiet_feed : SumsAddValues → TestsDetection → (y : ℕ → ℕ → ℕ) (p q : PulseState) (t : BoxThresholds)
    (room d m k : ℕ) (row : List ℕ) (leasts : List (Option ℕ)) → q ≡ p → PulsesAreSound q t room →
    length leasts ≡ length t.widths.items →
    ((at : ℕ) (least : Option ℕ) → slice_get leasts at ≡ Some least →
    StandOutFrom (noise_of q.search) (slice_index t.widths.items at * cells_in q.sought d) least) →
    ((w : ℕ) → w ≤ q.boxes.widest → ending_in_feed (first_sums y d m) row k w < 2 ^ 32) →
    ((level least : ℕ) → level < length leasts → slice_get leasts level ≡ Some (Some least) →
    ending_in_feed (first_sums y d m) row k (2 ^ level) < least) →
    IsRowOf y d m row → k < length row → pulses_of_delay y p.search p.sought (m + k) d ≡ []
quiet_feed adds tests y p q t room d m k row leasts seen sound long out fits below is lt =
    let s = q.search in
    let ws = sound.thresholds_are.widths_are in
    let count = long ∙ ap (λ (vs : List ℕ). length vs) ws in
    let widest = sound.boxes.widest in
    let box = λ (w : ℕ). box_in_feed adds y d m k w row is lt in
    subst (λ (r : PulseState). pulses_of_delay y r.search r.sought (m + k) d ≡ []) seen
    (quiet_widths tests y s q.sought (m + k) d leasts count
    (λ at least e. subst (λ (vs : List ℕ). StandOutFrom (noise_of s) (slice_index vs at * cells_in q.sought d) least) ws
    (out at least e))
    (λ at inside.
    let within = level_within s at (omega (arith, inside, count)) in
    subst (λ n. n < 2 ^ 32) (box (2 ^ at)) (fits (2 ^ at) (omega (arith, within, widest))))
    (λ at least inside e. subst (λ n. n < least) (box (2 ^ at)) (below at least inside e)))
