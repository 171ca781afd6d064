use Rattle.std.proofs.Common.{ℕ, ◌+◌, List, length, ap, ◌∙◌, subst, sym}
use Rattle.std.proofs.lemmas.List.{with_items_is}
use Rattle.row_schedule.specs.Filling.{StandsAtPlace}
use Rattle.row_schedule.specs.Running.{Stores}
use Rattle.row_schedule.proofs.Going.{kept_by, kept_room_stays, schedule_room}
use Rattle.row_schedule.proofs.stores.Stores.keep_rows.Goals as goal

pub keep_rows-requires-clause-kept : goal.keep_rows-requires-clause-kept
keep_rows-requires-clause-kept c =
    let old = c.args.self.now in
    let narrow_in = c.as_mut_slice.ensures.value ∙ ap (λ (st : Stores). st.kept_narrow) c.self.view_is in
    let wide_in = c.as_mut_slice-2.ensures.value ∙ ap (λ (st : Stores). st.kept_wide) c.self.view_is in
    kept_room_stays c.args.rows.now c.args.schedule.now.narrow old.kept_narrow old.kept_wide c.as_mut_slice.result.now
    c.as_mut_slice-2.result.now (ap length narrow_in) (ap length wide_in)
    (schedule_room c.args.rows.now c.args.schedule.now old c.requires.follows c.requires.kept_room)

pub returns-clause-keeps : goal.returns-clause-keeps
returns-clause-keeps c = λ x y u adds fits kept stands.
    let s = c.self.inside in
    let rows = c.args.rows.now in
    let narrow = c.args.schedule.now.narrow in
    let spectra : ℕ = c.args.spectra in
    let wide_in = c.as_slice.ensures.value ∙ ap (λ (st : Stores). st.wide) c.self.view_is in
    let kept_in = c.as_mut_slice.ensures.value ∙ ap (λ (st : Stores). st.kept_narrow) c.self.view_is in
    let kept_in' = c.as_mut_slice-2.ensures.value ∙ ap (λ (st : Stores). st.kept_wide) c.self.view_is in
    kept_by rows narrow y (u + spectra) c.keep_rows.new.kept_narrow c.keep_rows.new.kept_wide _ _
    (with_items_is s.kept_narrow c.keep_rows.new.kept_narrow
    (c.keep_rows.auto.kept_narrow ∙ c.as_mut_slice.ensures.len))
    (with_items_is s.kept_wide c.keep_rows.new.kept_wide (c.keep_rows.auto.kept_wide ∙ c.as_mut_slice-2.ensures.len))
    (c.keep_rows.ensures x y u adds fits
    (kept_by rows narrow y u c.args.self.now.kept_narrow c.args.self.now.kept_wide c.as_mut_slice.result.now
    c.as_mut_slice-2.result.now kept_in
    kept_in' kept)
    (λ q in_q. subst (λ (xs : List ℕ). StandsAtPlace c.args.room y u spectra xs q) (sym wide_in) (stands q in_q)))
