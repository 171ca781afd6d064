use Rattle.std.proofs.Common.{Bool, Some, refl, sym, subst}
use Rattle.search_words.specs.Settings.{run_seen}
use Rattle.search_opening.specs.Spaces.{HasRecorderSpace, plan_for}
use Rattle.search_opening.proofs.spaces.take_recorder.Goals as goal

pub returns-in-Ok : goal.returns-in-Ok
returns-in-Ok c =
    let s = c.args.run.now in
    let By : Bool → Type 0 = λ records.
    HasRecorderSpace records (plan_for (run_seen s) c.args.offsets.now) s.size (Some c.in-Ok.space) in
    subst By (sym c.if-not-run.false) (c.in-Ok.space, refl, c.in-Ok.ensures)
