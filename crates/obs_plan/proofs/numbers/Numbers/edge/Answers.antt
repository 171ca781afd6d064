use Rattle.std.proofs.Common.{◌≤◌, sym, subst, arith}
use Rattle.dada_model.specs.Observation.{Observation}
use Rattle.obs_plan.proofs.numbers.Numbers.edge.Goals as goal

pub returns : goal.returns
returns c =
    let short = subst (λ (o : Observation). c.args.k ≤ o.channels) (sym c.self.view_is) c.requires in
    let value = c.edges_are_quotients.ensures _ c.args.k c.self.invariant short in
    rw (← c.self.view_is) (grind (arith, value))
