use Rattle.beam_set.proofs.Opened.{lone_ready, beam_begins}
use Rattle.beam_set.proofs.space.BeamSpace.beam.Goals as goal

pub session-requires : goal.session-requires
session-requires c =
    let told = c.requires.ready.0 in
    record { ready = (told, lone_ready told c.args.self c.args.feeder c.requires.ready.1) }

pub returns-clause-begins : goal.returns-clause-begins
returns-clause-begins c = λ told ready.
    beam_begins told c.args.self c.args.feeder ready _
    (c.session.ensures.begins told (lone_ready told c.args.self c.args.feeder ready)) c.session.ensures.bank
