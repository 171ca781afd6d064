use Rattle.std.proofs.Common.{List, Option, ◌∙◌, sym, ap, subst}
use Rattle.dada_model.specs.Observation.{Observation}
use Rattle.disk_feeder.specs.Feeder.{headers_of}
use Rattle.search_opening.specs.Offsets.{AreOffsetsOf}
use Rattle.search_opening.specs.Plans.{PlansFit}
use Rattle.search_opening.specs.Judged.{AreFit, RefusesJudged}
use Rattle.run_outcome.specs.Runs.{IfSearch, task_of, search_for, settings_for}
use Rattle.search_opening.proofs.Opening.{all_there, is_opened, refusal_says}
use Rattle.search_opening.proofs.open.open_begun.Goals as goal

pub returns-in-Err-clause-stopped : goal.returns-in-Err-clause-stopped
returns-in-Err-clause-stopped g c =
    let s = settings_for c.args.purpose c.args.run.now in
    let headers = headers_of c.args.feeder.now in
    let told = g.I.Inputs.told c.args.feeder.now.inputs.now in
    let read = c.requires.firsts in
    let Says : List (Option Observation) → Type 0 = λ os. RefusesJudged (task_of c.args.purpose) s headers os
    c.in-Err.stop in
    record {
      kind = c.in-Err.ensures.refused.kind;
      says = refusal_says (task_of c.args.purpose) s headers c.args.observations.items told read.observed
          read.plan.headers read.each read.firsts read.headers c.in-Err.stop
          (subst Says c.as_slice.ensures.value c.in-Err.ensures.refused.says);
    }

pub first_offsets-requires-clause-there : goal.first_offsets-requires-clause-there
first_offsets-requires-clause-there g c =
    all_there (headers_of c.args.feeder.now) c.args.observations.items c.as_slice-2.result.now
    c.requires.firsts.observed c.as_slice-2.ensures.value

pub reserve-requires-clause-there : goal.reserve-requires-clause-there
reserve-requires-clause-there g c = λ lifetimes lives.
    all_there (headers_of c.args.feeder.now) c.args.observations.items c.as_slice-3.result.now
    c.requires.firsts.observed c.as_slice-3.ensures.value

pub reserve-requires-clause-fit : goal.reserve-requires-clause-fit
reserve-requires-clause-fit g c = λ lifetimes lives.
    let Fit : List (Option Observation) → Type 0 = λ os. IfSearch (task_of c.args.purpose) (search_for c.args.purpose)
    (λ found. PlansFit found os) in
    subst Fit (c.as_slice.ensures.value ∙ sym c.as_slice-3.ensures.value) c.in-Ok.ensures.fit.fits

pub reserve-requires-clause-records : goal.reserve-requires-clause-records
reserve-requires-clause-records g c = λ lifetimes lives is. c.requires.drivable.records (ap task_of is)

pub returns-in-Ok-reserve-clause-opened : goal.returns-in-Ok-reserve-clause-opened
returns-in-Ok-reserve-clause-opened g c =
    let s = settings_for c.args.purpose c.args.run.now in
    let task = task_of c.args.purpose in
    let headers = headers_of c.args.feeder.now in
    let Fit : List (Option Observation) → Type 0 = λ os. AreFit task s headers os in
    let Offsets : List (Option Observation) → Type 0 = λ os. AreOffsetsOf os c.first_offsets.result.items in
    is_opened g.I.Inputs.told g.I.Inputs.is_open task s c.args.feeder.now c.accept_all.new.feeder
    c.args.observations.items
    c.as_slice-3.result.now c.first_offsets.result.items c.as_slice-4.result.now c.header.result.now
    c.in-Ok-reserve.spaces c.requires.firsts
    c.accept_all.ensures.accepted
    c.requires.drivable c.header.ensures c.as_slice-3.ensures.value c.as_slice-4.ensures.value c.in-Ok-reserve.ensures
    (subst Fit c.as_slice.ensures.value c.in-Ok.ensures.fit)
    (subst Offsets c.as_slice-2.ensures.value c.first_offsets.ensures)
