use Rattle.std.proofs.Common.{◌≡◌, true}
use Rattle.disk_feeder.specs.Feeder.{headers_of}
use Rattle.run_outcome.specs.Runs.{task_of, settings_for}
use Rattle.search_opening.specs.Judged.{IsRefused}
use Rattle.search_opening.proofs.Opening.{both_err, if_err, search_refused, recording_refused}
use Rattle.search_opening.proofs.judge.judge.Goals as goal

pub returns-in-Ok-clause-refused : goal.returns-in-Ok-clause-refused
returns-in-Ok-clause-refused g c =
    let s = settings_for c.args.purpose c.args.run.now in
    let headers = headers_of c.args.feeder.now in
    if_err _ (IsRefused (task_of c.args.purpose) s headers c.args.observations.now) (s.recording ≡ true)
    c.judge_recording.result
    (λ stop. recording_refused (task_of c.args.purpose) s headers c.args.observations.now stop
    c.in-Ok.ensures.fit)
    (both_err _ _ c.judge_recording.result c.judge_recording.ensures.kind c.judge_recording.ensures.refused)
    c.judge_recording.ensures.records

pub returns-in-Err-clause-refused : goal.returns-in-Err-clause-refused
returns-in-Err-clause-refused g c =
    search_refused (task_of c.args.purpose) (settings_for c.args.purpose c.args.run.now)
    (headers_of c.args.feeder.now) c.args.observations.now c.in-Err.stop c.in-Err.ensures.searches
    c.in-Err.ensures.kind c.in-Err.ensures.refused
