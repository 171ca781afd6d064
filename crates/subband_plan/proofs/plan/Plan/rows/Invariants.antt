use Rattle.std.proofs.Common.{◌≡◌, ◌*◌, ◌≤◌, take, sum_by}
use Rattle.subband_plan.specs.Nodes.{row_count}
use Rattle.subband_plan.proofs.plan.Plan.rows.Given as goal

abbrev pub invariant-loop-node : goal.invariant-loop-node
invariant-loop-node l =
    (l.rows ≡ sum_by row_count (take l.node-index l.node-items)) × (l.rows ≤ 8193 * l.node-index)
