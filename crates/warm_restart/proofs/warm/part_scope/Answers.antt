use Rattle.std.proofs.Common.{ℕ, ap, subst, sym, ◌∙◌}
use Rattle.search_engine.specs.Scope.{FitsObservation, Scope, scope_of_part}
use Rattle.warm_restart.proofs.PartFound.{fits_part}
use Rattle.warm_restart.proofs.warm.part_scope.Goals as goal

pub returns-clause-value : goal.returns-clause-value
returns-clause-value c =
    let place = c.args.place in
    let until = c.args.until in
    c.of_part.ensures
    ∙ ap (λ (n : ℕ). scope_of_part n c.first_needed-first.result place until) c.channels.ensures
    ∙ ap (λ (first : ℕ). scope_of_part c.args.observation.now.channels first place until)
    c.first_needed-first.ensures.value

pub returns-clause-fits : goal.returns-clause-fits
returns-clause-fits c =
    let o = c.args.observation.now in
    let s = c.args.search.now in
    subst (λ (x : Scope). FitsObservation o s x) (sym (returns-clause-value c))
    (fits_part o s c.args.place c.args.until c.requires.place c.requires.until)
