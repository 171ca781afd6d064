use Rattle.std.proofs.Common.{List, arith, sym, subst}
use Rattle.row_schedule.specs.declared.builder.Order.{Order}
use Rattle.row_schedule.specs.Orders.{AreInOrder, MakeAll}
use Rattle.fdmt_carry.proofs.Plainly.{plainly_made}
use Rattle.fdmt_carry.proofs.plain.plain_schedule.Goals as goal

pub unreachable-requires : goal.unreachable-requires
unreachable-requires c =
    let rows = c.args.rows.now in
    let narrow = c.in_ok-narrow.narrow.items in
    let slots = c.in_ok-slots.slots.items in
    let made = plainly_made rows c.in_ok-orders.orders.items c.len-count.result narrow slots
    (omega (arith, c.len-count.ensures)) c.in_ok-narrow.ensures.items c.in_ok-slots.ensures.items
    c.in_ok-orders.ensures.plain.entries c.in_ok-orders.ensures.made in
    c.in_ok-schedule.ensures.all
    (subst (λ (orders : List Order). AreInOrder rows.rows narrow slots orders) (sym c.as_slice.ensures.value) made.0)
    (subst (λ (orders : List Order). MakeAll rows.rows orders) (sym c.as_slice.ensures.value) made.1)
    c.in-None.is
