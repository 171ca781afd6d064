use Rattle.std.proofs.Common.{arith}
use Rattle.subband_plan.specs.Nodes.{root}
use Rattle.subband_plan.proofs.Trees.{is_tree}
use Rattle.subband_plan.proofs.plan.plans_are_laid.Goals as goal

pub returns : goal.returns
returns c = λ p is.
    let few = is.band.few in
    let many = is.band.many in
    let count = is.band.count in
    let t = is_tree c.asked_rows_are_there.ensures 12 p.edges (root p) is.band
    (record { some = omega arith; within = omega arith; rows = is.order; few = is.few }) (omega arith) in
    let nodes_count = t.count in
    (record { band = is.band; count = omega arith; each = t.each }, t.head)
