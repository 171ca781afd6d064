use Rattle.std.proofs.Common.{sym, ap, ◌∙◌, arith}
use Rattle.row_model.specs.Sums.{is_narrow}
use Rattle.row_schedule.specs.declared.builder.Order.{Order}
use Rattle.row_schedule.proofs.Fitting.{stands_of, sum_step_is}
use Rattle.row_schedule.proofs.builder.Builder.sum_step.Goals as goal

pub sum_kind-requires-clause-upper : goal.sum_kind-requires-clause-upper
sum_kind-requires-clause-upper c = λ on.
    let ready = c.requires.order c.args.j c.requires.number in
    let sums = ready.narrow_sums c.args.merge c.requires.source in
    c.is_narrow-upper_narrow.ensures
    ∙ sums.upper
    (ap (λ (o : Order). is_narrow c.args.self.now.narrow o.row) (sym c.order-order.ensures)
    ∙ sym c.is_narrow-narrow.ensures ∙ on)

pub sum_kind-requires-clause-lower : goal.sum_kind-requires-clause-lower
sum_kind-requires-clause-lower c = λ on.
    let ready = c.requires.order c.args.j c.requires.number in
    let sums = ready.narrow_sums c.args.merge c.requires.source in
    c.is_narrow-lower_narrow.ensures
    ∙ sums.lower
    (ap (λ (o : Order). is_narrow c.args.self.now.narrow o.row) (sym c.order-order.ensures)
    ∙ sym c.is_narrow-narrow.ensures ∙ on)

pub begins_at-requires-clause-row : goal.begins_at-requires-clause-row
begins_at-requires-clause-row c =
    let rows = c.requires.rows in
    (rows.1.merge _ c.args.merge c.requires.source).upper

pub begins_at-requires-clause-made : goal.begins_at-requires-clause-made
begins_at-requires-clause-made c =
    let b = c.args.self.now in
    let ready = c.requires.order c.args.j c.requires.number in
    let st = stands_of c.args.rows.now b.narrow b.slots b.orders c.args.j _ c.args.merge.upper c.requires.order
    (omega arith) (ready.upper c.args.merge c.requires.source) in
    let there = st.there in
    let places = c.requires.places in
    (st.slot, st.found, omega arith)

pub begins_at-requires-2-clause-row : goal.begins_at-requires-2-clause-row
begins_at-requires-2-clause-row c =
    let rows = c.requires.rows in
    (rows.1.merge _ c.args.merge c.requires.source).lower

pub begins_at-requires-2-clause-made : goal.begins_at-requires-2-clause-made
begins_at-requires-2-clause-made c =
    let b = c.args.self.now in
    let ready = c.requires.order c.args.j c.requires.number in
    let st = stands_of c.args.rows.now b.narrow b.slots b.orders c.args.j _ c.args.merge.lower c.requires.order
    (omega arith) (ready.lower c.args.merge c.requires.source) in
    let there = st.there in
    let places = c.requires.places in
    (st.slot, st.found, omega arith)

pub overflow_sub-result : goal.overflow_sub-result
overflow_sub-result c =
    let b = c.args.self.now in
    let rows = c.requires.rows in
    let ready = c.requires.order c.args.j c.requires.number in
    let st = stands_of c.args.rows.now b.narrow b.slots b.orders c.args.j _ c.args.merge.upper c.requires.order
    (omega arith) (ready.upper c.args.merge c.requires.source) in
    let begins = c.begins_at.ensures st.slot st.found in
    let enough = (rows.1.merge _ c.args.merge c.requires.source).enough in
    omega arith

pub returns : goal.returns
returns c = λ chunk.
    let b = c.args.self.now in
    let rows = c.args.rows.now in
    let m = c.args.merge in
    let places = c.args.places.now in
    let rows_are = c.requires.rows in
    let ready = c.requires.order c.args.j c.requires.number in
    let up = stands_of rows b.narrow b.slots b.orders c.args.j _ m.upper c.requires.order
    (omega arith) (ready.upper m c.requires.source) in
    let low = stands_of rows b.narrow b.slots b.orders c.args.j _ m.lower c.requires.order
    (omega arith) (ready.lower m c.requires.source) in
    let up_at = c.begins_at.ensures up.slot up.found in
    let low_at = c.begins_at-2.ensures low.slot low.found in
    let enough = (rows_are.1.merge _ m c.requires.source).enough in
    let in_rows = ready.row in
    let row = ap (λ (o : Order). o.row) c.order-order.ensures in
    sum_step_is rows b.narrow b.slots b.orders places chunk c.args.j c.order-order.result _ _ _ _ _ m up low
    c.order-order.ensures c.requires.source c.sum_kind.ensures.adds
    (c.sum_kind.ensures.width ∙ c.is_narrow-narrow.ensures)
    (c.sum_kind.ensures.upper ∙ c.is_narrow-upper_narrow.ensures)
    (c.sum_kind.ensures.lower ∙ c.is_narrow-lower_narrow.ensures)
    c.tail.ensures.value
    (c.requires.held.each c.order-order.result.row (omega arith))
    (omega arith) low_at
