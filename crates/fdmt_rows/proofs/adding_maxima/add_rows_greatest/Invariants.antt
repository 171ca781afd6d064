use Rattle.std.proofs.Common.{ℕ, ◌<◌, ◌≤◌, slice_index}
use Rattle.fdmt_rows.specs.Lanes.{IsZeroOrIn}
use Rattle.fdmt_rows.specs.Rows.{sums_of, wrapping_sum}
use Rattle.fdmt_rows.specs.Writes.{Writes}
use Rattle.fdmt_rows.proofs.adding_maxima.add_rows_greatest.Given as goal

abbrev pub invariant-loop-k : goal.invariant-loop-k
invariant-loop-k l = record {
  written : Writes l.fn.out l.out 0 l.k (λ k. wrapping_sum (slice_index l.a k) (slice_index l.b k));
  bound : (k : ℕ) → k < l.k → slice_index (sums_of l.a l.b) k ≤ l.most;
  found : IsZeroOrIn (sums_of l.a l.b) l.most;
}
