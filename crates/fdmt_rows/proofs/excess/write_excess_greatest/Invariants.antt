use Rattle.std.proofs.Common.{◌*◌, slice_index, replicate}
use Rattle.fdmt_rows.specs.Excess.{excess}
use Rattle.fdmt_rows.proofs.Above.{Looked}
use Rattle.fdmt_rows.proofs.excess.write_excess_greatest.Given as goal

abbrev pub invariant-loop-step : goal.invariant-loop-step
invariant-loop-step l = Looked l.fn.out l.out (replicate 16 0) l.most
    (λ k. excess l.base (slice_index l.values k))
    (l.step * 16)
