use Rattle.std.proofs.Common.{refl, sym, ◌∙◌}
use Rattle.row_schedule.proofs.Marking.{marked_by, found_tells}
use Rattle.row_schedule.proofs.builder.Builder.was_made.Goals as goal

pub returns : goal.returns
returns c =
    let are = marked_by _ c.args.self.now _ c.self.inside.marks.items _ c.deref.result.now c.self.invariant
    c.self.view_is refl c.deref.ensures.value in
    c.is_some.ensures ∙ found_tells c.args.self.now _ _ c.args.row c.slot_found.result are (sym c.slot_found.ensures)
