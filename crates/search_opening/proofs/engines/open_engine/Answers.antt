use Rattle.std.proofs.Common.{[], sym, subst, ◌∙◌}
use Rattle.std.proofs.lemmas.Option.{same_Some}
use Rattle.search_engine.specs.Engine.{StandsForData}
use Rattle.search_opening.proofs.engines.open_engine.Goals as goal

pub returns-in-Ok : goal.returns-in-Ok
returns-in-Ok c = λ o said.
    let same = same_Some c.in-Some.observation o (sym c.in-Some.is ∙ said) in
    record {
      opened = c.in-Ok.ensures.opened;
      stands = subst (λ x. StandsForData x [] c.in-Ok.engine) same c.in-Ok.ensures.stands;
    }
