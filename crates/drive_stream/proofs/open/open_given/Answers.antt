use Rattle.std.proofs.Common.{sym, ◌∙◌, subst}
use Rattle.dada_model.specs.Observation.{Observation}
use Rattle.search_words.specs.Settings.{run_seen}
use Rattle.drive_stream.specs.Opening.{IsOpened}
use Rattle.drive_stream.proofs.Openings.{only_observed}
use Rattle.drive_stream.proofs.open.open_given.Goals as goal

pub only_one-requires : goal.only_one-requires
only_one-requires g c =
    only_observed _ c.args.observations.items c.requires.begun.observed
    (c.requires.begun.plan.headers ∙ c.requires.run.one)

pub returns-in-Ok-clause-opened : goal.returns-in-Ok-clause-opened
returns-in-Ok-clause-opened g c =
    let only = only_observed _ c.args.observations.items c.requires.begun.observed
    (c.requires.begun.plan.headers ∙ c.requires.run.one) in
    let P : Observation → Type 0 = λ o. IsOpened g.I.Inputs.told g.I.Inputs.is_open
    (g.T.Streaming.block c.args.task.now) (g.T.Streaming.takes c.args.task.now) (g.T.Streaming.opens c.args.task.now)
    (run_seen c.args.run.now) c.open_begun.new.feeder o c.in-Ok.stream in
    subst P (sym (c.only_one.ensures only.0 only.1))
    (c.in-Ok.ensures.opened only.0 (c.as_slice.ensures.value ∙ only.1))
