use Rattle.std.proofs.Common.{◌*◌, slice_index, replicate}
use Rattle.fdmt_rows.specs.Capped.{capped_sum}
use Rattle.fdmt_rows.proofs.Above.{Looked}
use Rattle.fdmt_rows.proofs.excess.add_capped_greatest.Given as goal

abbrev pub invariant-loop-step : goal.invariant-loop-step
invariant-loop-step l = Looked l.fn.out l.out (replicate 16 0) l.most
    (λ k. capped_sum (slice_index l.first k) (slice_index l.second k))
    (l.step * 16)
