use Rattle.std.proofs.Common.{length, sym, subst}
use Rattle.std.specs.Prelude.{OnOk, IfErr}
use Rattle.search_model.specs.Search.{SettingsInRange}
use Rattle.stream_model.specs.Walk.{FileStream}
use Rattle.run_outcome.specs.declared.purpose.Purpose.{Purpose}
use Rattle.run_outcome.specs.Runs.{IfSearch, CanSearchFirst, task_of, search_for}
use Rattle.search_opening.specs.First.{AreFirsts}
use Rattle.search_opening.specs.Plans.{PlansFit, StopsSearch}
use Rattle.search_opening.proofs.judge.judge_search.Goals as goal

pub check_plans-requires : goal.check_plans-requires
check_plans-requires c =
    let Range : Purpose → Type 0 = λ p. IfSearch (task_of p) (search_for p) SettingsInRange in
    subst Range c.in-Search.is c.requires.range

pub returns-in-Search-clause-fit : goal.returns-in-Search-clause-fit
returns-in-Search-clause-fit c =
    let Fit : Purpose → Type 0 = λ p. OnOk c.check_plans.result
    (IfSearch (task_of p) (search_for p) (λ found. PlansFit found c.args.observations.now)) in
    subst Fit (sym c.in-Search.is) c.check_plans.ensures.fit

pub returns-in-Search-clause-searched : goal.returns-in-Search-clause-searched
returns-in-Search-clause-searched c =
    let Can : Purpose → Type 0 = λ p. OnOk c.check_plans.result
    (IfSearch (task_of p) (search_for p) (λ found. (w : FileStream) → AreFirsts w c.args.observations.now →
    CanSearchFirst found w (length w.starts))) in
    subst Can (sym c.in-Search.is) c.check_plans.ensures.searched

pub returns-in-Search-clause-refused : goal.returns-in-Search-clause-refused
returns-in-Search-clause-refused c =
    let Refused : Purpose → Type 0 = λ p. IfErr c.check_plans.result (λ stop.
    IfSearch (task_of p) (search_for p) (λ found. StopsSearch found c.args.observations.now stop)) in
    subst Refused (sym c.in-Search.is) c.check_plans.ensures.refused
