use Rattle.search_words.specs.Settings.{run_seen}
use Rattle.run_outcome.specs.Runs.{task_of, search_for}
use Rattle.search_opening.proofs.Purposes.{some_reader}
use Rattle.search_opening.proofs.spaces.Spaces.reserve.Goals as goal

pub take_stage-requires-clause-some : goal.take_stage-requires-clause-some
take_stage-requires-clause-some g c =
    some_reader c.args.purpose c.args.run.now c.args.observations.now c.in_ok-banks.banks.items c.requires.search
    c.requires.records (c.in_ok-banks.ensures (run_seen c.args.run.now))

pub returns : goal.returns
returns g c = record {
  stage_is = c.in_ok-stage.ensures.space (task_of c.args.purpose) (search_for c.args.purpose) c.args.observations.now
      (c.in_ok-banks.ensures (run_seen c.args.run.now));
  recorder_is = c.in_ok-recorder.ensures;
}
