use Rattle.std.proofs.Common.{ℕ, ◌<◌, ◌≤◌, slice_index}
use Rattle.fdmt_rows.specs.Capped.{LanesUpTo}
use Rattle.fdmt_rows.proofs.capped.greatest_lane.Given as goal

abbrev pub invariant-loop-lane : goal.invariant-loop-lane
invariant-loop-lane l = record {
  enough : (k : ℕ) → k < l.lane-index → slice_index l.fn.lanes k ≤ l.most;
  least : (bound : ℕ) → LanesUpTo l.fn.lanes bound → l.most ≤ bound;
}
