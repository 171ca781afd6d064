use Rattle.std.proofs.Common.{arith}
use Rattle.subband_plan.specs.Nodes.{kept_count, node_at}
use Rattle.subband_plan.proofs.Numbers.{kept_some}
use Rattle.subband_plan.proofs.Places.{places_few}
use Rattle.subband_plan.proofs.rows.start_rows.Goals as goal

pub overflow_sub-start : goal.overflow_sub-start
overflow_sub-start c =
    let some = kept_some c.requires.0 _ (c.requires.1.each c.loop-node.node-index (omega arith)).branch in
    let least = c.least_row.ensures in
    omega (arith, some.0)

pub overflow_add-start-in-loop-node : goal.overflow_add-start-in-loop-node
overflow_add-start-in-loop-node c =
    let nodes = c.args.nodes.now in
    let here = kept_some c.requires.0 _ (c.requires.1.each c.loop-node.node-index (omega arith)).branch in
    let few = places_few (λ k. kept_count (node_at nodes k)) c.loop-node.node-index 8193
    c.loop-node.starts.items c.loop-node.invariant.0
    (λ k h. (kept_some c.requires.0 _ (c.requires.1.each k (omega arith)).branch).1)
    c.loop-node.node-index (omega arith) in
    let least = c.least_row.ensures in
    let place = c.loop-node.invariant.1 in
    let count = c.requires.1.count in
    let many = c.requires.1.band.many in
    omega (arith, few, place, here.0, here.1)
