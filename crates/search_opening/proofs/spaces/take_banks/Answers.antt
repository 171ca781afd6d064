use Rattle.std.proofs.Common.{sym, subst}
use Rattle.std.specs.Prelude.{IfOk}
use Rattle.search_model.specs.Search.{SettingsInRange}
use Rattle.search_words.specs.Settings.{with_search}
use Rattle.run_outcome.specs.declared.purpose.Purpose.{Purpose}
use Rattle.run_outcome.specs.Runs.{IfSearch, task_of, search_for}
use Rattle.search_opening.specs.Plans.{PlansFit}
use Rattle.search_opening.specs.Spaces.{AreBanksOf}
use Rattle.search_opening.proofs.spaces.take_banks.Goals as goal

pub open_banks-requires-clause-searched : goal.open_banks-requires-clause-searched
open_banks-requires-clause-searched g c = λ lifetimes lives.
    let Fit : Purpose → Type 0 = λ p.
    IfSearch (task_of p) (search_for p) (λ found. PlansFit found c.args.observations.now) in
    let Range : Purpose → Type 0 = λ p. IfSearch (task_of p) (search_for p) SettingsInRange in
    record {
      few = c.requires.few;
      there = c.requires.there;
      fit = subst Fit c.in-Search.is c.requires.fit;
      range = subst Range c.in-Search.is c.requires.range;
    }

pub returns-in-Search : goal.returns-in-Search
returns-in-Search g c = λ run.
    let Banks : Purpose → Type 0 = λ p. IfOk c.open_banks.result (λ banks.
    AreBanksOf (task_of p) (with_search (search_for p) run) c.args.observations.now banks.items) in
    subst Banks (sym c.in-Search.is) c.open_banks.ensures
