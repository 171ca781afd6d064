use Rattle.std.proofs.Common.{◌*◌, slice_index}
use Rattle.fdmt_rows.specs.Lanes.{AreLaneGreatest}
use Rattle.fdmt_rows.specs.Rows.{sums_of, wrapping_sum}
use Rattle.fdmt_rows.specs.Writes.{Writes}
use Rattle.fdmt_rows.proofs.adding_maxima.add_lanes_greatest.Given as goal

abbrev pub invariant-loop-step : goal.invariant-loop-step
invariant-loop-step l = record {
  written : Writes l.fn.out l.out 0 (l.step * 16) (λ k. wrapping_sum (slice_index l.a k) (slice_index l.b k));
  lanes : AreLaneGreatest (sums_of l.a l.b) l.lanes (l.step * 16);
}
