use Rattle.std.proofs.Common.{refl, sym, ◌∙◌, rules}
use Rattle.row_schedule.proofs.Marking.{marked_by, stands, stands_there, stands_nowhere}
use Rattle.row_schedule.proofs.builder.Builder.stands_beside.Goals as goal

pub returns-then-place-slot : goal.returns-then-place-slot
returns-then-place-slot c =
    let are = marked_by _ c.args.self.now _ c.deref-then-place-slot.result.now _ c.deref.result.now c.self.invariant
    c.self.view_is c.deref-then-place-slot.ensures.value c.deref.ensures.value in
    let found = sym c.slot_found.ensures ∙ c.in-Some.is in (
      λ so. stands c.args.self.now _ _ c.args.slot c.in-Some.place c.args.row are (search rules)
          (c.has_row.ensures.0 so),
      λ beside. c.has_row.ensures.1
          (stands_there c.args.self.now _ _ c.args.slot c.in-Some.place c.args.row are found beside).0,
    )

pub returns-else-place-slot : goal.returns-else-place-slot
returns-else-place-slot c =
    let are = marked_by _ c.args.self.now _ c.self.inside.marks.items _ c.deref.result.now c.self.invariant
    c.self.view_is refl c.deref.ensures.value in
    let found = sym c.slot_found.ensures ∙ c.in-Some.is in
    let same = c.if-place-slot.false in (
      λ so. search rules,
      λ beside. absurd ((stands_there c.args.self.now _ _ c.args.slot c.in-Some.place c.args.row are found beside).1
          same),
    )

pub returns-in-None : goal.returns-in-None
returns-in-None c =
    let are = marked_by _ c.args.self.now _ c.self.inside.marks.items _ c.deref.result.now c.self.invariant
    c.self.view_is refl c.deref.ensures.value in
    let found = sym c.slot_found.ensures ∙ c.in-None.is in
    (λ so. search rules, λ beside. absurd (stands_nowhere c.args.self.now _ _ c.args.slot c.args.row are found beside))
