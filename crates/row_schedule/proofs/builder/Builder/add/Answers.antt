use Rattle.std.proofs.Common.{Some, length, slice_set, sym, subst, rules}
use Rattle.row_schedule.specs.Orders.{AreInOrder, IsReady}
use Rattle.row_schedule.specs.Schedules.{Building, IsInOrder, building}
use Rattle.row_schedule.specs.Marks.{AreMarked}
use Rattle.row_schedule.proofs.Marking.{marked_more}
use Rattle.row_schedule.proofs.Appending.{in_order_more}
use Rattle.row_schedule.proofs.builder.Builder.add.Goals as goal

pub invariant_of-self-2 : goal.invariant_of-self-2
invariant_of-self-2 c =
    let inside = c.self.inside in
    let o = c.args.order in
    let ready = subst (λ (b : Building). IsReady c.args.rows.now b.narrow b.slots b.orders (length b.orders) o)
    (sym c.self.view_is) (c.is_ready.ensures.0 (search rules)) in
    subst (λ orders. AreMarked (building inside.narrow.items inside.slots.items orders)
    (slice_set inside.marks.items o.slot (Some o.row)) (slice_set c.reach.new.found.items o.row (Some o.slot)))
    (sym c.in_ok-push.ensures.items)
    (marked_more inside.narrow.items inside.slots.items inside.orders.items o inside.marks.items
    inside.found.items c.reach.new.found.items c.self.invariant ready.slot ready.once c.in_ok-reach.ensures.same
    c.in_ok-reach.ensures.room)

pub returns-clause-in_order : goal.returns-clause-in_order
returns-clause-in_order c = λ in_order.
    let inside = c.self.inside in
    let o = c.args.order in
    let rows = c.args.rows.now in
    let ready = subst (λ (b : Building). IsReady rows b.narrow b.slots b.orders (length b.orders) o)
    (sym c.self.view_is) (c.is_ready.ensures.0 (search rules)) in
    let before = subst (λ (b : Building). IsInOrder rows b) (sym c.self.view_is) in_order in
    subst (λ orders. AreInOrder rows inside.narrow.items inside.slots.items orders) (sym c.in_ok-push.ensures.items)
    (in_order_more rows inside.narrow.items inside.slots.items inside.orders.items o before ready)
