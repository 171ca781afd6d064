use Rattle.std.proofs.Common.{◌*◌, slice_index}
use Rattle.fdmt_rows.specs.Rows.{wrapping_sum}
use Rattle.fdmt_rows.specs.Writes.{Writes}
use Rattle.fdmt_rows.proofs.lanes.add_to_whole_lanes.Given as goal

abbrev pub invariant-loop-step : goal.invariant-loop-step
invariant-loop-step l = Writes l.fn.row l.row 0 (l.step * 16) (λ k. wrapping_sum (slice_index l.fn.row k) (slice_index l.a k))
