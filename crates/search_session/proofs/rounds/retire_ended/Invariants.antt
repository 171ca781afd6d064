use Rattle.std.specs.Prelude.{All}
use Rattle.search_session.specs.Hands.{HandOn, HandMoved, HandRetired, FirstMoved}
use Rattle.search_session.proofs.Handling.{FirstAre}
use Rattle.search_session.proofs.rounds.retire_ended.Given as goal

abbrev pub invariant-loop-place : goal.invariant-loop-place
invariant-loop-place g l = record {
  on : All (HandOn g.I.Inputs.told g.I.Inputs.is_open g.F.Files.is_open l.hdu) l.hands;
  moved : FirstMoved (HandMoved g.I.Inputs.told g.I.Inputs.is_calm g.I.Inputs.faults g.F.Files.seen 0) l.place
      l.fn.hands l.hands;
  retired : FirstAre HandRetired l.place l.hands;
}
