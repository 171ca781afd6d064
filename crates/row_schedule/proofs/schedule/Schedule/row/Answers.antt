use Rattle.std.proofs.Common.{◌≡◌, ◌+◌, ◌-◌, ℕ, slice_index, ap, sym, ◌∙◌, arith}
use Rattle.row_schedule.specs.declared.builder.Order.{Order}
use Rattle.row_schedule.specs.Orders.{order_at}
use Rattle.row_schedule.specs.Layout.{tail_of}
use Rattle.row_schedule.proofs.Parts.{part_at}
use Rattle.row_schedule.proofs.Carrying.{row_read}
use Rattle.row_schedule.proofs.schedule.Schedule.row.Goals as goal

pub returns-clause-values : goal.returns-clause-values
returns-clause-values c = λ x y u k st adds wide_is stands lt.
    let s = c.args.self.now in
    let rows = c.args.rows.now in
    let order = c.order-row.ensures in
    let at : ℕ = c.place.result + c.tail.result in
    let place_is = c.place.ensures ∙ ap (λ (o : Order). slice_index s.places o.slot) order in
    let tail_is = c.tail.ensures.value ∙ ap (λ (o : Order). tail_of rows o.row) order in
    part_at at (at + c.args.spectra - at) c.wide-wide.result.now k (omega arith)
    ∙ ap (λ p. slice_index c.wide-wide.result.now (p + k)) (let e :
    at ≡ slice_index s.places (order_at s.orders c.args.order).slot + tail_of rows (order_at s.orders c.args.order).row
    = omega arith in e)
    ∙ row_read rows s x y u c.args.spectra c.args.order k st c.wide-wide.result.now c.requires.follows
    c.requires.order c.requires.width adds (wide_is ∙ sym c.wide-wide.ensures) stands lt
