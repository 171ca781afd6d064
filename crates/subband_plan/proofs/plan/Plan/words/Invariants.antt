use Rattle.std.proofs.Common.{◌≡◌, ◌*◌, ◌≤◌, ◌^◌, take, sum_by}
use Rattle.subband_plan.specs.Nodes.{word_count}
use Rattle.subband_plan.proofs.plan.Plan.words.Given as goal

abbrev pub invariant-loop-node : goal.invariant-loop-node
invariant-loop-node l =
    (l.words ≡ sum_by (word_count l.chunk) (take l.node-index l.node-items))
    × (l.words ≤ 8193 * 2 ^ 33 * l.node-index)
