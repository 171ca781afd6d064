use Rattle.std.proofs.Common.{◌≡◌, Some, refl, sym, ap, ◌∙◌}
use Rattle.std.proofs.lemmas.Option.{same_Some}
use Rattle.session_readers.specs.declared.record.RecordActor.{RecordActor}
use Rattle.search_session.proofs.ended.part_recorder.Goals as goal

pub returns-in-Some-clause-some : goal.returns-in-Some-clause-some
returns-in-Some-clause-some g c = λ x is.
    let F : Type 0 = g.row.F.Denot in
    let same : c.in-Some.actor ≡ x = same_Some c.in-Some.actor x (sym c.in-Some.is ∙ is) in (
      ap (λ (y : RecordActor F). y.end) same,
      (
        c.close.result,
        refl,
        c.close.ensures.files ∙ ap (λ (y : RecordActor F). y.part.files.now) same,
        c.close.ensures.same_reference ∙ ap (λ (y : RecordActor F). y.part.files.ghost_name) same,
      ),
    )
