use Rattle.std.proofs.Common.{length, ap, ◌∙◌, arith}
use Rattle.std.proofs.lemmas.List.{with_items_is}
use Rattle.row_schedule.specs.declared.stores.Sizes.{Sizes}
use Rattle.row_schedule.specs.Running.{Stores}
use Rattle.row_schedule.proofs.Going.{kept_by, kept_room_stays, schedule_room, sizes_room}
use Rattle.row_schedule.proofs.stores.Stores.go_over.Goals as goal

pub take_rows-requires-clause-old_room : goal.take_rows-requires-clause-old_room
take_rows-requires-clause-old_room c =
    let old = c.args.self.now in
    let narrow_in = c.as_slice.ensures.value ∙ ap (λ (st : Stores). st.kept_narrow) c.self.view_is in
    let wide_in = c.as_slice-2.ensures.value ∙ ap (λ (st : Stores). st.kept_wide) c.self.view_is in
    kept_room_stays c.args.rows.now c.args.before.now.narrow old.kept_narrow old.kept_wide c.as_slice.result.now
    c.as_slice-2.result.now (ap length narrow_in) (ap length wide_in)
    (schedule_room c.args.rows.now c.args.before.now old c.requires.before c.requires.room)

pub take_rows-requires-clause-room : goal.take_rows-requires-clause-room
take_rows-requires-clause-room c =
    let narrow_size = ap (λ (sizes : Sizes). sizes.kept_narrow) c.spare.view_is in
    let wide_size = ap (λ (sizes : Sizes). sizes.kept_wide) c.spare.view_is in
    let narrow_long = ap length c.as_mut_slice.ensures.value in
    let wide_long = ap length c.as_mut_slice-2.ensures.value in
    let narrow_fills = c.fill_up.ensures in
    let wide_fills = c.fill_up-2.ensures in
    sizes_room c.args.rows.now c.args.next.now c.args.spare c.as_mut_slice.result.now c.as_mut_slice-2.result.now
    c.requires.next c.requires.next_room (omega arith) (omega arith)

pub returns-clause-kept : goal.returns-clause-kept
returns-clause-kept c = λ y u fits kept.
    let rows = c.args.rows.now in
    let narrow_in = c.as_slice.ensures.value ∙ ap (λ (st : Stores). st.kept_narrow) c.self.view_is in
    let wide_in = c.as_slice-2.ensures.value ∙ ap (λ (st : Stores). st.kept_wide) c.self.view_is in
    kept_by rows c.args.next.now.narrow y u c.take_rows.new.kept_narrow c.take_rows.new.kept_wide _ _
    (with_items_is c.fill_up.new.list c.take_rows.new.kept_narrow (c.take_rows.auto.kept_narrow ∙ c.as_mut_slice.ensures.len))
    (with_items_is c.fill_up-2.new.list c.take_rows.new.kept_wide (c.take_rows.auto.kept_wide ∙ c.as_mut_slice-2.ensures.len))
    (c.take_rows.ensures y u fits
    (kept_by rows c.args.before.now.narrow y u c.args.self.now.kept_narrow c.args.self.now.kept_wide
    c.as_slice.result.now c.as_slice-2.result.now narrow_in wide_in kept))
