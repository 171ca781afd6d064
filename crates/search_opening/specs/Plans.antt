-- The plans of a search of all transfers, in order: they fit, or the first that does not.
-- Source: this project's choice.
use Rattle.std.specs.Prelude.{◌≡◌, ◌<◌, ℕ, List, Option, Some, None, All, IfSome, slice_get}
use Rattle.dada_model.specs.Observation.{Observation}
use Rattle.search_model.specs.declared.search.Search.{Search}
use Rattle.search_model.specs.Plan.{plan_refusal}
use Rattle.search_engine.specs.Plan.{IsRefusedFirst}
use Rattle.search_engine.specs.declared.fault.PlanFault.{PlanFault}
use Rattle.run_outcome.specs.declared.causes.PlanCause.{PlanCause}
use Rattle.run_outcome.specs.declared.stop.Stop.{Stop}
use Rattle.run_outcome.specs.declared.stop.Stop.TheVariants.{Plan}
use Rattle.run_outcome.specs.Runs.{IsPlanCause}

-- the search of each observation fits
abbrev pub PlansFit : Search → List (Option Observation) → Type 0
PlansFit s observations = All (λ at. IfSome at (λ o. plan_refusal o s ≡ None)) observations

-- the search of the observation of some transfer is refused, and those before it fit
pub record RefusesPlan (s : Search) (observations : List (Option Observation)) (fault : PlanFault) :
    Type 0 where
  pub transfer : ℕ
  pub observation : Observation
  pub there : slice_get observations transfer ≡ Some (Some observation)
  pub cause : IsRefusedFirst (plan_refusal observation s) fault
  pub earlier : (k : ℕ) (o : Observation) → k < transfer →
      slice_get observations k ≡ Some (Some o) → plan_refusal o s ≡ None

-- ---- the stop of a run

-- it says that a search is refused
abbrev pub IsOfPlan : Stop → Type 0
IsOfPlan stop = (cause : PlanCause) × (stop ≡ Plan cause)

-- the search of the observation of some transfer is refused by this cause, and those before it fit
pub record RefusesObservation
    (s : Search) (observations : List (Option Observation)) (cause : PlanCause)
    : Type 0 where
  pub transfer : ℕ
  pub observation : Observation
  pub there : slice_get observations transfer ≡ Some (Some observation)
  pub refused : IsPlanCause (plan_refusal observation s) cause
  pub earlier : (k : ℕ) (o : Observation) → k < transfer →
      slice_get observations k ≡ Some (Some o) → plan_refusal o s ≡ None

-- and that of which observation, with its cause
abbrev pub StopsSearch : Search → List (Option Observation) → Stop → Type 0
StopsSearch s observations stop =
    (cause : PlanCause) × (stop ≡ Plan cause) × RefusesObservation s observations cause
