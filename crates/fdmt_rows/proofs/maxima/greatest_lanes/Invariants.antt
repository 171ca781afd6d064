use Rattle.std.proofs.Common.{◌*◌}
use Rattle.fdmt_rows.specs.Lanes.{AreLaneGreatest}
use Rattle.fdmt_rows.proofs.maxima.greatest_lanes.Given as goal

abbrev pub invariant-loop-step : goal.invariant-loop-step
invariant-loop-step l = AreLaneGreatest l.row l.lanes (l.step * 16)
