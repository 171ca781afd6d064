use Rattle.std.proofs.Common.{◌*◌, slice_index}
use Rattle.fdmt_rows.specs.Writes.{Writes}
use Rattle.fdmt_rows.specs.Capped.{capped_sum}
use Rattle.fdmt_rows.proofs.capped.add_capped_rows.Given as goal

abbrev pub invariant-loop-step : goal.invariant-loop-step
invariant-loop-step l =
    Writes l.fn.out l.out 0 (l.step * 16) (λ k. capped_sum (slice_index l.first k) (slice_index l.second k))
