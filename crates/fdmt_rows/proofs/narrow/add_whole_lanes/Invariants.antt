use Rattle.std.proofs.Common.{◌*◌, slice_index}
use Rattle.fdmt_rows.specs.Rows.{narrow_sum}
use Rattle.fdmt_rows.specs.Writes.{Writes}
use Rattle.fdmt_rows.proofs.narrow.add_whole_lanes.Given as goal

abbrev pub invariant-loop-step : goal.invariant-loop-step
invariant-loop-step l = Writes l.fn.out l.out 0 (l.step * 16) (λ k. narrow_sum (slice_index l.a k) (slice_index l.b k))
