-- Why beams whose headers were read are not opened.
-- Source: this project's choice.
use Rattle.std.specs.Prelude.{◌≡◌, ℕ, ◌⊎◌, Option}
use Rattle.dada_model.specs.Fields.{HeaderText}
use Rattle.dada_model.specs.Observation.{Observation}
use Rattle.search_model.specs.declared.search.Search.{Search}
use Rattle.search_model.specs.Plan.{plan_refusal}
use Rattle.run_outcome.specs.declared.causes.PlanCause.{PlanCause}
use Rattle.run_outcome.specs.declared.stop.Stop.{Stop}
use Rattle.run_outcome.specs.declared.stop.Stop.TheVariants.{Plan}
use Rattle.run_outcome.specs.Runs.{IsPlanCause}
use Rattle.psr_beams.specs.Judged.{AreOfOne, StopsJudging}

-- the search of the observation of these headers is refused
pub record RefusesTheirPlan (s : Search) (headers : ℕ → Option HeaderText) (count : ℕ) (stop : Stop) :
    Type 0 where
  pub observation : Observation
  pub accepted : AreOfOne headers count observation
  pub cause : PlanCause
  pub is : stop ≡ Plan cause
  pub refused : IsPlanCause (plan_refusal observation s) cause

-- a header is refused, or the search; or there was no memory
abbrev pub StopsOpening : Search → (ℕ → Option HeaderText) → ℕ → Stop → Type 0
StopsOpening s headers count stop =
    StopsJudging headers count stop ⊎ RefusesTheirPlan s headers count stop
