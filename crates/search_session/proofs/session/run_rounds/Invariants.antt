use Rattle.std.proofs.Common.{ℕ}
use Rattle.std.specs.Prelude.{All}
use Rattle.search_session.specs.Hands.{HandOn, HandMoved, EachMoved}
use Rattle.search_session.proofs.session.run_rounds.Given as goal

abbrev pub invariant-loop-round : goal.invariant-loop-round
invariant-loop-round g l = record {
  on : All (HandOn g.I.Inputs.told g.I.Inputs.is_open g.F.Files.is_open l.hdu) l.hands;
  moved : (n : ℕ) × EachMoved (HandMoved g.I.Inputs.told g.I.Inputs.is_calm g.I.Inputs.faults g.F.Files.seen n)
      l.fn.hands l.hands;
}
