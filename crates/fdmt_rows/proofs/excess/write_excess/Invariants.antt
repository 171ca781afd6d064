use Rattle.std.proofs.Common.{slice_index}
use Rattle.fdmt_rows.specs.Excess.{excess}
use Rattle.fdmt_rows.specs.Writes.{Writes}
use Rattle.fdmt_rows.proofs.excess.write_excess.Given as goal

abbrev pub invariant-loop-k : goal.invariant-loop-k
invariant-loop-k l = Writes l.fn.out l.out 0 l.k (λ k. excess l.base (slice_index l.values k))
