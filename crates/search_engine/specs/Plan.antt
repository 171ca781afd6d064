-- Which refusal the fault of a plan means.
-- Source: this project's choice.
use Rattle.std.specs.Prelude.{◌≡◌, ◌⊎◌, Option, Some}
use Rattle.search_model.specs.Plan as model
use Rattle.search_model.specs.Plan.{PlanRefusal}
use Rattle.search_engine.specs.declared.fault.PlanFault.{PlanFault}
use Rattle.search_engine.specs.declared.fault.PlanFault.TheVariants.{SumBound, FoldTooLarge, TooManyFolds, TooManyShards, Memory}

-- a fault is what is refused first
abbrev pub IsRefusedFirst : Option PlanRefusal → PlanFault → Type 0
IsRefusedFirst first (SumBound max_sample cells factor) =
    first ≡ Some (model.SumBound max_sample cells factor)
IsRefusedFirst first (FoldTooLarge pmax mmax) = first ≡ Some (model.FoldTooLarge pmax mmax)
IsRefusedFirst first (TooManyFolds count) = first ≡ Some (model.TooManyFolds count)
IsRefusedFirst first (TooManyShards count delays) = first ≡ Some (model.TooManyShards count delays)
IsRefusedFirst first Memory = ⊥

-- the fault means this refusal, or it is want of memory
abbrev pub Explains : Option PlanRefusal → PlanFault → Type 0
Explains first fault = (fault ≡ Memory) ⊎ IsRefusedFirst first fault
