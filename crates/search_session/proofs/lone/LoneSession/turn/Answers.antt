use Rattle.search_session.proofs.LoneTurns.{lone_still}
use Rattle.search_session.proofs.lone.LoneSession.turn.Goals as goal

pub returns-then-has_ended-clause-moved : goal.returns-then-has_ended-clause-moved
returns-then-has_ended-clause-moved g c =
    lone_still g.I.Inputs.told g.I.Inputs.is_open g.I.Inputs.is_calm g.I.Inputs.faults 1 c.args.inputs.now
    c.args.self.now c.requires.on (c.has_ended.ensures.0 c.if-has_ended.true)
