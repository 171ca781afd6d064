use Rattle.std.proofs.Common.{◌∙◌}
use Rattle.search_words.specs.Settings.{run_seen}
use Rattle.drive_stream.proofs.Openings.{only_observed, some_observed, says_before, is_opened, only_memory}
use Rattle.drive_stream.proofs.open.open_begun.Goals as goal

pub open_first-requires-clause-one : goal.open_first-requires-clause-one
open_first-requires-clause-one g c =
    only_observed _ c.args.observations.now c.requires.begun.observed
    (c.requires.begun.plan.headers ∙ c.requires.run.one)

pub size_for-requires-clause-one : goal.size_for-requires-clause-one
size_for-requires-clause-one g c =
    only_observed _ c.args.observations.now c.requires.begun.observed
    (c.requires.begun.plan.headers ∙ c.requires.run.one)

pub go_on-requires-clause-some : goal.go_on-requires-clause-some
go_on-requires-clause-some g c =
    let only = only_observed _ c.args.observations.now c.requires.begun.observed
    (c.requires.begun.plan.headers ∙ c.requires.run.one) in
    some_observed c.args.observations.now only.0 only.1

pub returns-in-Ok-clause-opened : goal.returns-in-Ok-clause-opened
returns-in-Ok-clause-opened g c o one =
    is_opened g.I.Inputs.told g.I.Inputs.is_open (run_seen c.args.run.now) c.args.feeder.now
    c.args.observations.now c.requires.begun o c.header.result.now one c.header.ensures
    (g.T.Streaming.block c.args.task.now) (g.T.Streaming.takes c.args.task.now) (g.T.Streaming.opens c.args.task.now)
    c.size_for.result c.go_on.new.feeder c.in-Ok.stream c.size_for.ensures.fits (c.size_for.ensures.cut o one)
    (c.go_on.ensures.plan _ _ _ _ c.requires.begun.plan) c.go_on.ensures.ready c.go_on.ensures.inputs
    (c.in-Ok.ensures.takes o one) (c.in-Ok.ensures.opened o one)

pub returns-in-Err-clause-stopped : goal.returns-in-Err-clause-stopped
returns-in-Err-clause-stopped g c =
    let only = only_observed _ c.args.observations.now c.requires.begun.observed
    (c.requires.begun.plan.headers ∙ c.requires.run.one) in
    says_before g.I.Inputs.told g.I.Inputs.is_open (run_seen c.args.run.now) c.args.feeder.now
    c.args.observations.now c.requires.begun only.0 c.header.result.now only.1 c.header.ensures
    (g.T.Streaming.refuses c.args.task.now) c.in-Err.stop c.requires.run.one (c.open_first.ensures.range only.0 only.1)
    (c.in-Err.ensures.stopped only.0 only.1)

pub returns-in-Err-clause-memory : goal.returns-in-Err-clause-memory
returns-in-Err-clause-memory g c what is =
    let only = only_observed _ c.args.observations.now c.requires.begun.observed
    (c.requires.begun.plan.headers ∙ c.requires.run.one) in
    only_memory (g.T.Streaming.refuses c.args.task.now) only.0 c.header.result.now c.in-Err.stop what
    (c.in-Err.ensures.stopped only.0 only.1) cc
