use Rattle.std.proofs.Common.{Bool, Option, Some, sym, ap, subst, ◌∙◌}
use Rattle.std.specs.Prelude.{if◌then◌else◌, length}
use Rattle.disk_feeder.specs.declared.feeder.Feeder.{Feeder}
use Rattle.disk_feeder.specs.Feeder.{plan_at}
use Rattle.dada_recorder.specs.declared.recorder.Recorder.{Recorder}
use Rattle.search_session.specs.Recorded.{RecordedAnswers, RecordedBy}
use Rattle.search_session.specs.Sessions.{FeedAnswers, ShardAnswers}
use Rattle.drive_session.proofs.Staging.{is_staged, records_fresh}
use Rattle.drive_session.proofs.Through.{feeds_found, goes_with}
use Rattle.drive_session.proofs.session.with_recorder.Goals as goal

pub stage-stage-requires : goal.stage-stage-requires
stage-stage-requires g c =
    let at = c.requires.ready in
    is_staged g.I.Inputs.told g.I.Inputs.is_open g.F.Files.is_open at.0 at.1 at.2 c.args.feeder
    c.args.observations.items c.args.stage (Some c.args.recorder) at.3.ready
    (ap (λ (b : Bool). if b then 1 else 0) (sym at.3.records))
    (records_fresh g.I.Inputs.told g.I.Inputs.is_open g.F.Files.is_open at.0 at.1 at.2 c.args.feeder
    c.args.observations.items c.args.stage c.args.recorder at.3)

pub returns-clause-same_files : goal.returns-clause-same_files
returns-clause-same_files g c =
    let end = c.run_session-end.result in
    let stage = c.stage-stage.result in
    let Recorded : Option (Recorder _) → Type 0 = λ r.
    RecordedAnswers g.F.Files.is_open g.F.Files.seen stage.feeder r (length stage.banks.items) end in
    let by = subst Recorded c.stage-stage.ensures.recorder c.run_session-end.ensures.recorded in
    (c.found_of.ensures.files by.files by.given).1 ∙ by.same_reference

pub returns-clause-fed : goal.returns-clause-fed
returns-clause-fed g c =
    let end = c.run_session-end.result in
    let Fed : Feeder _ → Type 0 = λ feeder.
    FeedAnswers g.I.Inputs.told g.I.Inputs.is_calm g.I.Inputs.faults feeder end in
    feeds_found g.I.Inputs.told g.I.Inputs.is_calm c.args.feeder end c.args.observations c.found_of.result.done
    c.found_of.result.inputs.now
    (c.sessions_feed_files.ensures c.args.feeder end
    (subst Fed c.stage-stage.ensures.feeder c.run_session-end.ensures.feed)) c.found_of.ensures.found
    c.found_of.ensures.inputs

pub returns-clause-went : goal.returns-clause-went
returns-clause-went g c = λ task s offsets before ready read.
    let end = c.run_session-end.result in
    let stage = c.stage-stage.result in
    let seen = g.F.Files.seen in
    let banks = stage.banks.items in
    let Fed : Feeder _ → Type 0 = λ feeder.
    FeedAnswers g.I.Inputs.told g.I.Inputs.is_calm g.I.Inputs.faults feeder end in
    let Shards : Feeder _ → Type 0 = λ feeder. ShardAnswers (length (plan_at feeder).starts) banks end in
    let files_open = g.F.Files.is_open in
    let Recorded : Option (Recorder _) → Type 0 = λ r.
    RecordedAnswers files_open seen stage.feeder r (length banks) end in
    let By : Feeder _ → Type 0 = λ feeder. RecordedBy files_open seen feeder c.args.recorder (length banks) end in
    let fed = subst Fed c.stage-stage.ensures.feeder c.run_session-end.ensures.feed in
    let shards = subst Shards c.stage-stage.ensures.feeder c.run_session-end.ensures.shards in
    let by = subst By c.stage-stage.ensures.feeder
    (subst Recorded c.stage-stage.ensures.recorder c.run_session-end.ensures.recorded) in
    goes_with c.runs_record_blocks.ensures c.totals_are_counted.ensures c.firsts_stay_told.ensures
    c.recordings_are_said.ensures g.I.Inputs.told g.I.Inputs.is_open g.I.Inputs.is_calm g.I.Inputs.faults
    files_open seen task s offsets c.args.feeder c.args.observations c.args.stage c.args.recorder banks end
    c.found_of.result.done c.found_of.result.files.now before ready
    (ap (λ ls. ls.items) c.stage-stage.ensures.banks) fed shards by c.found_of.ensures.found
    (c.found_of.ensures.files by.files by.given).0 read
    (c.sessions_feed_files.ensures c.args.feeder end fed)

pub found_of-requires : goal.found_of-requires
found_of-requires g c =
    let end = c.run_session-end.result in
    let stage = c.stage-stage.result in
    let Recorded : Option (Recorder _) → Type 0 = λ r.
    RecordedAnswers g.F.Files.is_open g.F.Files.seen stage.feeder r (length stage.banks.items) end in
    let by = subst Recorded c.stage-stage.ensures.recorder c.run_session-end.ensures.recorded in
    (by.files, by.given)
