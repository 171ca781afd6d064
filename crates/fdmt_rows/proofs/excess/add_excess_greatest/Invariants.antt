use Rattle.std.proofs.Common.{◌*◌, slice_index, replicate}
use Rattle.fdmt_rows.specs.Excess.{excess_of_two}
use Rattle.fdmt_rows.proofs.Above.{Looked}
use Rattle.fdmt_rows.proofs.excess.add_excess_greatest.Given as goal

abbrev pub invariant-loop-step : goal.invariant-loop-step
invariant-loop-step l = Looked l.fn.out l.out (replicate 16 0) l.most
    (λ k. excess_of_two l.upper_base l.lower_base (slice_index l.upper k) (slice_index l.lower k))
    (l.step * 16)
