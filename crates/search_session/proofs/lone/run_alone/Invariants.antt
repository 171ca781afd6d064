use Rattle.std.proofs.Common.{ℕ}
use Rattle.search_session.specs.Lone.{LoneOn, LoneMoved, HasFileOpen}
use Rattle.search_session.proofs.lone.run_alone.Given as goal

abbrev pub invariant-loop-turn : goal.invariant-loop-turn
invariant-loop-turn g l = record {
  on : LoneOn (g.I.Inputs.told l.inputs) l.session;
  file : HasFileOpen g.I.Inputs.is_open l.inputs l.session;
  moved : (n : ℕ) × LoneMoved g.I.Inputs.told g.I.Inputs.is_calm g.I.Inputs.faults n l.fn.inputs l.fn.session
      l.inputs l.session;
}
