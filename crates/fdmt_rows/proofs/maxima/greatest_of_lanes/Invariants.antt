use Rattle.std.proofs.Common.{ℕ, ◌<◌, ◌≤◌, slice_index}
use Rattle.fdmt_rows.specs.Lanes.{IsZeroOrIn}
use Rattle.fdmt_rows.proofs.maxima.greatest_of_lanes.Given as goal

abbrev pub invariant-loop-lane : goal.invariant-loop-lane
invariant-loop-lane l = record {
  bound : (k : ℕ) → k < l.lane-index → slice_index l.fn.lanes k ≤ l.most;
  found : IsZeroOrIn l.fn.lanes l.most;
}
