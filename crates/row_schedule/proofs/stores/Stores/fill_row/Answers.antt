use Rattle.std.proofs.Common.{ℕ, List, length, ap, ◌∙◌, subst, sym}
use Rattle.std.proofs.lemmas.List.{with_items_is}
use Rattle.row_schedule.specs.Filling.{HasSources, StandsAtPlace}
use Rattle.row_schedule.specs.Running.{Stores}
use Rattle.row_schedule.proofs.Going.{kept_by, kept_room_stays, schedule_room}
use Rattle.row_schedule.proofs.stores.Stores.fill_row.Goals as goal

pub fill_row-requires-clause-kept : goal.fill_row-requires-clause-kept
fill_row-requires-clause-kept c =
    let old = c.args.self.now in
    let narrow_in = c.as_slice.ensures.value ∙ ap (λ (st : Stores). st.kept_narrow) c.self.view_is in
    let wide_in = c.as_slice-2.ensures.value ∙ ap (λ (st : Stores). st.kept_wide) c.self.view_is in
    kept_room_stays c.args.rows.now c.args.schedule.now.narrow old.kept_narrow old.kept_wide c.as_slice.result.now
    c.as_slice-2.result.now (ap length narrow_in) (ap length wide_in)
    (schedule_room c.args.rows.now c.args.schedule.now old c.requires.follows c.requires.kept_room)

pub returns-clause-stands : goal.returns-clause-stands
returns-clause-stands c = λ x y u given sources.
    let s = c.self.inside in
    let rows = c.args.rows.now in
    let room : ℕ = c.args.room in
    let spectra : ℕ = c.args.spectra in
    let wide_in = c.as_mut_slice.ensures.value ∙ ap (λ (st : Stores). st.wide) c.self.view_is in
    let kept_in = c.as_slice.ensures.value ∙ ap (λ (st : Stores). st.kept_narrow) c.self.view_is in
    let kept_in' = c.as_slice-2.ensures.value ∙ ap (λ (st : Stores). st.kept_wide) c.self.view_is in
    let out = with_items_is s.wide c.fill_row.new.wide (c.fill_row.auto.wide ∙ c.as_mut_slice.ensures.len) in
    subst (λ (xs : List ℕ). StandsAtPlace room y u spectra xs c.args.row) (sym out)
    (c.fill_row.ensures.stands x y u
    (record {
      adds = given.adds;
      channels = given.channels;
      rows_are = given.rows_are;
      next = given.next;
      kept_are = kept_by rows c.args.schedule.now.narrow y u c.args.self.now.kept_narrow
          c.args.self.now.kept_wide c.as_slice.result.now c.as_slice-2.result.now kept_in kept_in' given.kept_are;
    })
    (subst (λ (xs : List ℕ). HasSources rows room y u spectra xs c.args.row) (sym wide_in) sources))

pub returns-clause-others : goal.returns-clause-others
returns-clause-others c = λ y u q other stands.
    let s = c.self.inside in
    let room : ℕ = c.args.room in
    let spectra : ℕ = c.args.spectra in
    let wide_in = c.as_mut_slice.ensures.value ∙ ap (λ (st : Stores). st.wide) c.self.view_is in
    let out = with_items_is s.wide c.fill_row.new.wide (c.fill_row.auto.wide ∙ c.as_mut_slice.ensures.len) in
    subst (λ (xs : List ℕ). StandsAtPlace room y u spectra xs q) (sym out)
    (c.fill_row.ensures.others y u q other
    (subst (λ (xs : List ℕ). StandsAtPlace room y u spectra xs q) (sym wide_in) stands))
