use Rattle.std.proofs.Common.{sym, subst}
use Rattle.search_opening.specs.Plans.{StopsSearch}
use Rattle.search_opening.proofs.Stopping.{stops_search}
use Rattle.search_opening.proofs.plans.check_plans.Goals as goal

pub returns-in-Err-clause-refused : goal.returns-in-Err-clause-refused
returns-in-Err-clause-refused c =
    subst (StopsSearch c.args.search.now c.args.observations.now) (sym c.of_plan.ensures)
    (stops_search c.args.observations.now c.args.search.now c.in-Err.fault c.in-Err.ensures.refused)
