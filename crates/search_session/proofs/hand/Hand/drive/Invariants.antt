use Rattle.search_session.specs.Hands.{HandOn, HandMoved}
use Rattle.search_session.proofs.hand.Hand.drive.Given as goal

abbrev pub invariant-loop-turn : goal.invariant-loop-turn
invariant-loop-turn g l = record {
  on : HandOn g.I.Inputs.told g.I.Inputs.is_open g.F.Files.is_open l.hdu l.self;
  moved : HandMoved g.I.Inputs.told g.I.Inputs.is_calm g.I.Inputs.faults g.F.Files.seen l.turn l.fn.self l.self;
}
