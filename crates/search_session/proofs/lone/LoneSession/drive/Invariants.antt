use Rattle.search_session.specs.Lone.{LoneOn, LoneMoved, HasFileOpen}
use Rattle.search_session.proofs.lone.LoneSession.drive.Given as goal

abbrev pub invariant-loop-turn : goal.invariant-loop-turn
invariant-loop-turn g l = record {
  on : LoneOn (g.I.Inputs.told l.inputs) l.self;
  file : HasFileOpen g.I.Inputs.is_open l.inputs l.self;
  moved : LoneMoved g.I.Inputs.told g.I.Inputs.is_calm g.I.Inputs.faults l._turn l.fn.inputs l.fn.self l.inputs l.self;
}
