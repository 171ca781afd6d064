use Rattle.std.proofs.Common.{◌≡◌, ◌<◌, ◌*◌, refl, ap, subst, arith}
use Rattle.dada_model.specs.Bounds.{ObservationInRange}
use Rattle.dada_model.specs.Observation.{Observation, dispersion_span}
use Rattle.obs_plan.proofs.Foot.{squares_fall}
use Rattle.obs_plan.proofs.numbers.Numbers.dispersion_span.Goals as goal
use Rattle.obs_plan.proofs.numbers.Numbers.dispersion_span.Goals.{After-from-foot}

channels : (c : After-from-foot) → c.self.inside.channels ≡ c.args.self.now.channels
channels c = ap (λ (o : Observation). o.channels) c.self.view_is

falls : (c : After-from-foot) → c.from-foot.result * c.from-foot.result < c.from-top.result * c.from-top.result
falls c = rw (c.from-top.ensures, c.from-foot.ensures, c.edge.ensures, c.edge-2.ensures, channels c)
    (squares_fall c.edges_fall.ensures c.args.self.now (subst ObservationInRange c.self.view_is c.self.invariant))

pub overflow_sub-result : goal.overflow_sub-result
overflow_sub-result c = let below = falls (goal.at.overflow_sub-result c).After-from-foot in omega arith

pub nonzero_div-result : goal.nonzero_div-result
nonzero_div-result c = let below = falls (goal.at.nonzero_div-result c).After-from-foot in omega arith

pub returns : goal.returns
unfolding dispersion_span
returns c = rw (
  c.from-top.ensures,
  c.from-foot.ensures,
  c.edge.ensures,
  c.edge-2.ensures,
  channels (goal.at.returns c).After-from-foot,
) refl
