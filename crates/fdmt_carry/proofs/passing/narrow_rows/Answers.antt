use Rattle.std.proofs.Common.{ℕ, ◌+◌, Bool, List, arith, subst, sym}
use Rattle.std.proofs.lemmas.List.{get_or_read}
use Rattle.fdmt_carry.proofs.Narrow.{AreLowRows, low_row, low_more, are_low}
use Rattle.fdmt_carry.proofs.passing.narrow_rows.Goals as goal

pub loop-r-preserved : goal.loop-r-preserved
loop-r-preserved c =
    let p = c.args.plan.now in
    let rows = c.args.rows.now in
    let m : ℕ = c.args.limit in
    let r : ℕ = c.loop-r.r in
    let number = get_or_read rows.nodes.items r c.index.result.now (omega arith) c.index.ensures 0 in
    let delay =
    get_or_read rows.delays.items r c.index-in-loop-r.result.now (omega arith) c.index-in-loop-r.ensures 0 in
    let more = low_more p rows m r c.loop-r.narrow.items c.is_low.result c.loop-r.invariant
    (λ yes. low_row p rows m r c.index.result.now c.index-in-loop-r.result.now c.all_nodes-nodes.result.now
    c.all_nodes-nodes.ensures.value number delay (c.is_low.ensures.part yes) (c.is_low.ensures.low yes)) in
    subst (λ (narrow : List Bool). AreLowRows p rows m (r + 1) narrow) (sym c.in_ok-push.ensures.items) more

pub returns-clause-low : goal.returns-clause-low
returns-clause-low c =
    are_low c.args.plan.now c.args.rows.now c.args.limit c.loop-r.r c.loop-r.narrow.items c.loop-r.invariant
