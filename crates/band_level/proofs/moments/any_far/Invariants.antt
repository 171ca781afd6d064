use Rattle.std.proofs.Common.{ℕ, ◌≡◌, ◌<◌, ◌≤◌, slice_index}
use Rattle.band_level.specs.Columns.{far_part}
use Rattle.band_level.proofs.moments.any_far.Given as goal

abbrev pub invariant-loop-i : goal.invariant-loop-i
invariant-loop-i l = record {
  few : l.count ≤ l.i;
  none : l.count ≡ 0 → (k : ℕ) → k < l.i
      → far_part (slice_index l.lows k) (slice_index l.highs k) (slice_index l.row k) 1 ≡ 0;
}
