use Rattle.std.proofs.Common.{Some, slice_get, sym, ap, arith, ◌∙◌}
use Rattle.row_schedule.specs.declared.builder.Order.{Order}
use Rattle.row_schedule.proofs.Fitting.{copy_step_is}
use Rattle.row_schedule.proofs.builder.Builder.step.Goals as goal

pub returns-in-Channel : goal.returns-in-Channel
returns-in-Channel c =
    let b = c.args.self.now in
    let rows = c.args.rows.now in
    let in_rows = (c.requires.order c.args.j c.requires.number).row in
    let row = ap (λ (o : Order). o.row) c.order-order.ensures in
    copy_step_is rows b.narrow b.orders c.args.places.now c.args.chunk c.args.j c.order-order.result _ _ _ _
    c.in-Channel.channel c.order-order.ensures (c.source.ensures ∙ ap Some c.in-Channel.is)
    c.copy_kind.ensures.copies (c.copy_kind.ensures.width ∙ c.is_narrow-narrow.ensures) c.tail.ensures.value
    (c.requires.held.each c.order-order.result.row (omega arith))

pub sum_step-requires-clause-source : goal.sum_step-requires-clause-source
sum_step-requires-clause-source c =
    ap (λ (o : Order). slice_get c.args.rows.now.sources.items o.row) (sym c.order-order.ensures)
    ∙ c.source.ensures ∙ ap Some c.in-Sum.is

pub returns-in-Sum : goal.returns-in-Sum
returns-in-Sum c = c.sum_step.ensures c.args.chunk
