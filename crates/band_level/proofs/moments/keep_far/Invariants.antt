use Rattle.std.proofs.Common.{ℕ, ◌+◌, ◌≤◌, slice_index}
use Rattle.band_level.specs.Columns.{far_part}
use Rattle.band_level.proofs.Fills.{Fills}
use Rattle.band_level.proofs.moments.keep_far.Given as goal

abbrev pub invariant-loop-i : goal.invariant-loop-i
invariant-loop-i l = record {
  row : Fills l.initial.row l.row l.i (λ i. far_part (slice_index l.lows i) (slice_index l.highs i)
      (slice_index l.initial.row i) (slice_index l.initial.row i));
  counts : Fills l.initial.counts l.counts l.i (λ i. slice_index l.initial.counts i
      + far_part (slice_index l.lows i) (slice_index l.highs i) (slice_index l.initial.row i) 1);
  fewer : (i : ℕ) → slice_index l.row i ≤ slice_index l.initial.row i;
}
