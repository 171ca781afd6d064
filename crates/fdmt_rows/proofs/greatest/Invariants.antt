use Rattle.std.proofs.Common.{ℕ, ◌<◌, ◌≤◌, slice_index}
use Rattle.fdmt_rows.specs.Lanes.{IsZeroOrIn}
use Rattle.fdmt_rows.proofs.greatest.Given as goal

abbrev pub invariant-loop-k : goal.invariant-loop-k
invariant-loop-k l = record {
  bound : (k : ℕ) → k < l.k → slice_index l.row k ≤ l.most;
  found : IsZeroOrIn l.row l.most;
}
