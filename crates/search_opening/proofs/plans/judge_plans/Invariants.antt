use Rattle.std.proofs.Common.{ℕ, ◌≡◌, ◌<◌, Some, None, slice_get}
use Rattle.dada_model.specs.Observation.{Observation}
use Rattle.search_model.specs.Plan.{plan_refusal}
use Rattle.search_opening.proofs.plans.judge_plans.Given as goal

-- the observations before are searched by a plan that fits
abbrev pub invariant-loop-k : goal.invariant-loop-k
invariant-loop-k l = record {
  fit : (j : ℕ) (o : Observation) → j < l.k → slice_get l.observations j ≡ Some (Some o) →
      plan_refusal o l.search ≡ None;
}
