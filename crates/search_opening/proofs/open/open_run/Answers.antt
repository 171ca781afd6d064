use Rattle.std.proofs.Common.{Result, Ok, Err, OnOk, sym, subst}
use Rattle.search_words.specs.Settings.{run_seen}
use Rattle.disk_feeder.specs.Feeder.{FeederRead}
use Rattle.run_outcome.specs.Runs.{task_of, search_for, settings_for}
use Rattle.search_opening.specs.Early.{StopsEarly}
use Rattle.search_opening.proofs.Opening.{leaves_opening}
use Rattle.search_opening.proofs.Results.{map_err}
use Rattle.search_opening.proofs.Told.{stops_before_reading}
use Rattle.search_opening.proofs.open.open_run.Goals as goal

pub open_begun-requires-clause-firsts : goal.open_begun-requires-clause-firsts
open_begun-requires-clause-firsts g c = λ lifetimes lives. c.in-Ok.ensures.begun.firsts

pub returns-in-Ok-clause-stopped : goal.returns-in-Ok-clause-stopped
returns-in-Ok-clause-stopped g c =
    let s = settings_for c.args.purpose c.args.run.now in
    let task = task_of c.args.purpose in
    let old = g.I.Inputs.told c.args.feeder.now.inputs.now in
    let new = g.I.Inputs.told c.begin_run.new.feeder.inputs.now in
    map_err (StopsEarly task s new) (StopsEarly task s old) c.open_begun.result
    (λ stop. stops_before_reading task s old new stop c.begin_run.ensures.inputs.names) c.open_begun.ensures.stopped

pub returns-in-Err-clause-stopped : goal.returns-in-Err-clause-stopped
returns-in-Err-clause-stopped g c = c.in-Err.ensures.stopped (task_of c.args.purpose) (search_for c.args.purpose)

-- ---- what was read

on_ok : {T E : Type 0} (r : Result T E) (P : Type 0) → P → OnOk r P
on_ok (Ok x) P p = p
on_ok (Err e) P p = tt

pub returns-in-Ok-clause-begins : goal.returns-in-Ok-clause-begins
returns-in-Ok-clause-begins g c =
    let told = g.I.Inputs.told in
    let old = told c.args.feeder.now.inputs.now in
    let new = c.open_begun.new.feeder in
    let Reads : _ → Type 0 = λ i. FeederRead old (told i) new in
    on_ok c.open_begun.result (FeederRead old (told new.inputs.now) new)
    (subst Reads (sym c.open_begun.ensures.inputs)
    (c.open_begun.ensures.reads_on old (told c.begin_run.new.feeder.inputs.now) c.in-Ok.ensures.begun.reads))

pub returns-in-Ok-clause-leaves : goal.returns-in-Ok-clause-leaves
returns-in-Ok-clause-leaves g c =
    let Calm : _ → Type 0 = g.I.Inputs.is_calm in
    leaves_opening g.I.Inputs.told (Calm c.args.feeder.now.inputs.now) (run_seen c.args.run.now)
    c.args.feeder.now.inputs.now c.begin_run.new.feeder.inputs.now c.open_begun.new.feeder.inputs.now
    c.open_begun.result c.in-Ok.ensures.begun.only c.open_begun.ensures.inputs c.open_begun.ensures.readable
