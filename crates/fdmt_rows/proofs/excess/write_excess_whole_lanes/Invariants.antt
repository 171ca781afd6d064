use Rattle.std.proofs.Common.{◌*◌, slice_index}
use Rattle.fdmt_rows.specs.Excess.{excess}
use Rattle.fdmt_rows.specs.Writes.{Writes}
use Rattle.fdmt_rows.proofs.excess.write_excess_whole_lanes.Given as goal

abbrev pub invariant-loop-step : goal.invariant-loop-step
invariant-loop-step l = Writes l.fn.out l.out 0 (l.step * 16) (λ k. excess l.base (slice_index l.values k))
