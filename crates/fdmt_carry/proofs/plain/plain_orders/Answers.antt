use Rattle.std.proofs.Common.{◌≡◌, ℕ, ◌+◌, ◌-◌, List, [], length, arith, sym, subst}
use Rattle.row_schedule.specs.declared.builder.Order.{Order}
use Rattle.subband_plan.specs.Nodes.{nodes_of}
use Rattle.fdmt_carry.specs.Plain.{NodesAreMade}
use Rattle.fdmt_carry.proofs.Plainly.{none_made, all_made}
use Rattle.fdmt_carry.proofs.plain.plain_orders.Goals as goal

pub loop-done-init : goal.loop-done-init
loop-done-init c =
    let p = c.args.plan.now in
    let rows = c.args.rows.now in
    let none : c.nodes-count.result - 0 ≡ length (nodes_of p) = omega (arith, c.nodes-count.ensures.value) in
    subst (λ (orders : List Order). NodesAreMade p rows (c.nodes-count.result - 0) orders)
    (sym c.in_ok-orders.ensures.items)
    (subst (λ (n : ℕ). NodesAreMade p rows n []) (sym none) (none_made p rows c.requires.rows))

pub order_node-requires-clause-made : goal.order_node-requires-clause-made
order_node-requires-clause-made c =
    let lt = c.loop-done-test.true in
    let next : c.nodes-count.result - c.loop-done.done ≡ c.nodes-count.result - 1 - c.loop-done.done + 1 =
    omega arith in
    subst (λ (n : ℕ). NodesAreMade c.args.plan.now c.args.rows.now n c.loop-done.orders.items) next
    c.loop-done.invariant

pub loop-done-preserved : goal.loop-done-preserved
loop-done-preserved c =
    let next : c.nodes-count.result - 1 - c.loop-done.done ≡ c.nodes-count.result - (c.loop-done.done + 1) =
    omega arith in
    subst (λ (n : ℕ). NodesAreMade c.args.plan.now c.args.rows.now n c.order_node.new.orders.items) next
    c.in_ok-order_node.ensures

pub returns-clause-plain : goal.returns-clause-plain
returns-clause-plain c =
    let p = c.args.plan.now in
    let rows = c.args.rows.now in
    let laid = (c.plans_are_laid.ensures p c.nodes-count.ensures.plan).0 in
    let past = c.loop-done-test.false in
    let all : NodesAreMade p rows 0 c.loop-done.orders.items =
    subst (λ (n : ℕ). NodesAreMade p rows n c.loop-done.orders.items)
    (let e : c.nodes-count.result - c.loop-done.done ≡ 0 = omega arith in e) c.loop-done.invariant in
    (all_made c.rows_are_numbered.ensures p rows c.loop-done.orders.items laid c.requires.rows all).0

pub returns-clause-made : goal.returns-clause-made
returns-clause-made c =
    let p = c.args.plan.now in
    let rows = c.args.rows.now in
    let laid = (c.plans_are_laid.ensures p c.nodes-count.ensures.plan).0 in
    let past = c.loop-done-test.false in
    let all : NodesAreMade p rows 0 c.loop-done.orders.items =
    subst (λ (n : ℕ). NodesAreMade p rows n c.loop-done.orders.items)
    (let e : c.nodes-count.result - c.loop-done.done ≡ 0 = omega arith in e) c.loop-done.invariant in
    (all_made c.rows_are_numbered.ensures p rows c.loop-done.orders.items laid c.requires.rows all).1
