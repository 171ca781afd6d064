use Rattle.std.proofs.Common.{Bool, Option, None, sym, ap, subst}
use Rattle.std.specs.Prelude.{if◌then◌else◌, length}
use Rattle.disk_feeder.specs.declared.feeder.Feeder.{Feeder}
use Rattle.disk_feeder.specs.Feeder.{plan_at}
use Rattle.dada_recorder.specs.declared.recorder.Recorder.{Recorder}
use Rattle.search_session.specs.Recorded.{RecordedAnswers}
use Rattle.search_session.specs.Sessions.{FeedAnswers, ShardAnswers}
use Rattle.drive_session.proofs.Staging.{is_staged}
use Rattle.drive_session.proofs.Through.{feeds_found, goes_without}
use Rattle.drive_session.proofs.session.without_recorder.Goals as goal

pub stage-stage-requires : goal.stage-stage-requires
stage-stage-requires g c =
    let at = c.requires.ready in
    is_staged g.I.Inputs.told g.I.Inputs.is_open g.F.Files.is_open at.0 at.1 at.2 c.args.feeder
    c.args.observations.items c.args.stage None at.3.ready
    (ap (λ (b : Bool). if b then 1 else 0) (sym at.3.records_not)) (λ hdu size. tt)

pub returns-clause-fed : goal.returns-clause-fed
returns-clause-fed g c =
    let end = c.run_session-end.result in
    let Fed : Feeder _ → Type 0 = λ feeder.
    FeedAnswers g.I.Inputs.told g.I.Inputs.is_calm g.I.Inputs.faults feeder end in
    feeds_found g.I.Inputs.told g.I.Inputs.is_calm c.args.feeder end c.args.observations c.found_without.result.done
    c.found_without.result.inputs.now
    (c.sessions_feed_files.ensures c.args.feeder end
    (subst Fed c.stage-stage.ensures.feeder c.run_session-end.ensures.feed)) c.found_without.ensures.found
    c.found_without.ensures.inputs

pub returns-clause-went : goal.returns-clause-went
returns-clause-went g c = λ task s offsets before ready read.
    let end = c.run_session-end.result in
    let stage = c.stage-stage.result in
    let seen = g.F.Files.seen in
    let banks = stage.banks.items in
    let Fed : Feeder _ → Type 0 = λ feeder.
    FeedAnswers g.I.Inputs.told g.I.Inputs.is_calm g.I.Inputs.faults feeder end in
    let Shards : Feeder _ → Type 0 = λ feeder. ShardAnswers (length (plan_at feeder).starts) banks end in
    let files_open = g.F.Files.is_open in
    let Recorded : Option (Recorder _) → Type 0 = λ r.
    RecordedAnswers files_open seen stage.feeder r (length banks) end in
    let fed = subst Fed c.stage-stage.ensures.feeder c.run_session-end.ensures.feed in
    goes_without c.totals_are_counted.ensures c.firsts_stay_told.ensures c.recordings_are_said.ensures g.I.Inputs.told
    g.I.Inputs.is_open g.I.Inputs.is_calm g.I.Inputs.faults files_open seen task s offsets c.args.feeder
    c.args.observations c.args.stage banks end c.found_without.result.done c.args.files.now
    c.found_without.result.files.now before ready (ap (λ ls. ls.items) c.stage-stage.ensures.banks) fed
    (subst Shards c.stage-stage.ensures.feeder c.run_session-end.ensures.shards)
    (subst Recorded c.stage-stage.ensures.recorder c.run_session-end.ensures.recorded) c.found_without.ensures.found
    c.found_without.ensures.files read (c.sessions_feed_files.ensures c.args.feeder end fed)
