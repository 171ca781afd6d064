use Rattle.std.proofs.Common.{sym, subst}
use Rattle.std.proofs.lemmas.Result.{IfErr-weaker, IfOk-weaker}
use Rattle.disk_feeder.specs.Feeder.{FeederRead}
use Rattle.run_outcome.specs.Runs.{RecordingAlone}
use Rattle.search_words.specs.Settings.{run_seen}
use Rattle.drive_stream.proofs.Openings.{leaves_opening, says_still}
use Rattle.drive_stream.proofs.open.open.Goals as goal

pub returns-in-Err-clause-stopped : goal.returns-in-Err-clause-stopped
returns-in-Err-clause-stopped g c = (c.in-Err.ensures.kind, (c.in-Err.ensures.stopped RecordingAlone tt).says)

pub returns-in-Ok-clause-stopped : goal.returns-in-Ok-clause-stopped
returns-in-Ok-clause-stopped g c =
    IfErr-weaker c.open_given.result _ _ (λ stop says.
    says_still c.early_stops_stand.ensures c.firsts_stay_told.ensures (g.T.Streaming.refuses c.args.task.now)
    (run_seen c.args.run.now) (g.I.Inputs.told c.args.feeder.now.inputs.now)
    (g.I.Inputs.told c.begin_run.new.feeder.inputs.now) stop c.begin_run.ensures.inputs.names says)
    c.open_given.ensures.stopped

pub returns-in-Ok-clause-opened : goal.returns-in-Ok-clause-opened
returns-in-Ok-clause-opened g c =
    let told = g.I.Inputs.told in
    let old = told c.args.feeder.now.inputs.now in
    let new = c.open_given.new.feeder in
    let Reads : _ → Type 0 = λ i. FeederRead old (told i) new in
    IfOk-weaker c.open_given.result _ _ (λ r opened. record {
      opened = opened;
      reads = subst Reads (sym c.open_given.ensures.inputs)
          (c.open_given.ensures.reads_on old (told c.begin_run.new.feeder.inputs.now) c.in-Ok.ensures.begun.reads);
    }) c.open_given.ensures.opened

pub returns-in-Ok-clause-leaves : goal.returns-in-Ok-clause-leaves
returns-in-Ok-clause-leaves g c =
    leaves_opening g.I.Inputs.told (g.I.Inputs.is_calm c.args.feeder.now.inputs.now) (run_seen c.args.run.now)
    c.args.feeder.now.inputs.now c.begin_run.new.feeder.inputs.now c.open_given.new.feeder.inputs.now
    c.open_given.result c.in-Ok.ensures.begun.only c.open_given.ensures.inputs c.open_given.ensures.memory
