use Rattle.std.proofs.Common.{◌≡◌, ◌*◌, ◌^◌, ◌<◌, refl, ap, subst, arith}
use Rattle.std.proofs.lemmas.Nat.{div_below}
use Rattle.dada_model.specs.Bounds.{ObservationInRange}
use Rattle.dada_model.specs.Observation.{Observation, dm}
use Rattle.obs_plan.proofs.numbers.Numbers.dm.Goals as goal
use Rattle.obs_plan.proofs.numbers.Numbers.dm.Goals.{After-dispersion_span}

sample : (c : After-dispersion_span) → c.self.inside.sample_ns ≡ c.args.self.now.sample_ns
sample c = ap (λ (o : Observation). o.sample_ns) c.self.view_is

below : (c : After-dispersion_span) → c.from.result * c.from-2.result * 241 * c.dispersion_span.result < 2 ^ 122
below c = rw (c.from.ensures, c.from-2.ensures, c.dispersion_span.ensures, sample c)
    (c.dispersion_fits.ensures c.args.self.now c.args.d (subst ObservationInRange c.self.view_is c.self.invariant)
    c.requires)

pub overflow_mul-whole-3 : goal.overflow_mul-whole-3
overflow_mul-whole-3 c = let small = below (goal.at.overflow_mul-whole-3 c).After-dispersion_span in omega arith

pub overflow_cast-result : goal.overflow_cast-result
overflow_cast-result c =
    let small = below (goal.at.overflow_cast-result c).After-dispersion_span in
    let quotient = div_below (c.from.result * c.from-2.result * 241 * c.dispersion_span.result) 1000000000000000000
    (2 ^ 64) (omega arith) (omega arith) in
    omega arith

pub returns : goal.returns
unfolding dm
returns c = rw (
  c.from.ensures,
  c.from-2.ensures,
  c.dispersion_span.ensures,
  sample (goal.at.returns c).After-dispersion_span,
) refl
