use Rattle.std.proofs.Common.{slice_index}
use Rattle.fdmt_rows.specs.Rows.{wrapping_sum}
use Rattle.fdmt_rows.specs.Writes.{Writes}
use Rattle.fdmt_rows.proofs.narrow.add_mixed_rows.Given as goal

abbrev pub invariant-loop-k : goal.invariant-loop-k
invariant-loop-k l = Writes l.fn.out l.out 0 l.k (λ k. wrapping_sum (slice_index l.wide k) (slice_index l.narrow k))
