use Rattle.std.proofs.Common.{Result, Ok, Err, OnOk, sym, subst}
use Rattle.search_words.specs.Settings.{settings_seen}
use Rattle.disk_feeder.specs.Feeder.{FeederRead}
use Rattle.run_outcome.specs.Runs.{RecordingAlone, Alone}
use Rattle.drive_lone.proofs.Opening.{begin_stops, stops_before_reading, leaves_opening}
use Rattle.drive_lone.proofs.Results.{map_err}
use Rattle.drive_lone.proofs.open.open_alone.Goals as goal

pub returns-in-Ok-clause-stopped : goal.returns-in-Ok-clause-stopped
returns-in-Ok-clause-stopped g c =
    map_err _ _ c.open_begun.result
    (λ stop. stops_before_reading c.early_stops_stand.ensures c.firsts_stay_told.ensures _ _
    (settings_seen c.args.settings.now)
    (g.I.Inputs.told c.args.feeder.now.inputs.now) (g.I.Inputs.told c.begin_run.new.feeder.inputs.now) stop
    c.begin_run.ensures.inputs.names) c.open_begun.ensures.stopped

pub returns-in-Err-clause-stopped : goal.returns-in-Err-clause-stopped
returns-in-Err-clause-stopped g c =
    begin_stops (g.S.Scoping.accepts c.args.scoping.now) (g.S.Scoping.refuses c.args.scoping.now)
    (settings_seen c.args.settings.now) (g.I.Inputs.told c.args.feeder.now.inputs.now) c.in-Err.stop
    c.in-Err.ensures.kind (c.in-Err.ensures.stopped RecordingAlone tt).kind
    (λ lone. c.in-Err.ensures.stopped (Alone lone) c.args.settings.now.search)

-- ---- what was read

on_ok : {T E : Type 0} (r : Result T E) (P : Type 0) → P → OnOk r P
on_ok (Ok x) P p = p
on_ok (Err e) P p = tt

pub returns-in-Ok-clause-begins : goal.returns-in-Ok-clause-begins
returns-in-Ok-clause-begins g c =
    let told = g.I.Inputs.told in
    let old = told c.args.feeder.now.inputs.now in
    let new = c.open_begun.new.feeder in
    let Reads : _ → Type 0 = λ i. FeederRead old (told i) new in
    on_ok c.open_begun.result (FeederRead old (told new.inputs.now) new)
    (subst Reads (sym c.open_begun.ensures.inputs)
    (c.open_begun.ensures.reads_on old (told c.begin_run.new.feeder.inputs.now) c.in-Ok.ensures.begun.reads))

pub returns-in-Ok-clause-leaves : goal.returns-in-Ok-clause-leaves
returns-in-Ok-clause-leaves g c =
    leaves_opening g.I.Inputs.told (g.I.Inputs.is_calm c.args.feeder.now.inputs.now)
    (settings_seen c.args.settings.now) c.args.feeder.now.inputs.now c.begin_run.new.feeder.inputs.now
    c.open_begun.new.feeder.inputs.now c.open_begun.result c.in-Ok.ensures.begun.only c.open_begun.ensures.inputs
    c.open_begun.ensures.readable
