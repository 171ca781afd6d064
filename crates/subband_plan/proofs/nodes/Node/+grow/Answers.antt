use Rattle.std.proofs.Common.{arith}
use Rattle.subband_plan.proofs.Trees.{grown_one, grown_two}
use Rattle.subband_plan.proofs.nodes.Node.+grow.Goals as goal

pub returns-in_ok-grow-2 : goal.returns-in_ok-grow-2
returns-in_ok-grow-2 t c =
    grown_two c.args.edges.now c.args.self _ _ _ _ _ _ (omega arith) c.halves.ensures.upper c.halves.ensures.lower
    c.in_ok-push.ensures.items c.in_ok-grow.ensures c.in_ok-grow-2.ensures

pub returns-else-self-ge2 : goal.returns-else-self-ge2
returns-else-self-ge2 t c =
    grown_one c.args.edges.now c.args.self _ _ (omega arith) c.in_ok-push.ensures.items
