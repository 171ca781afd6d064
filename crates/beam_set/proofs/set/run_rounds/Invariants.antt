use Rattle.std.proofs.Common.{ℕ, ◌≤◌}
use Rattle.beam_set.specs.Sets.{EachPair, PairsMoved, SlotOn, SlotMoved}
use Rattle.beam_set.proofs.set.run_rounds.Given as goal

abbrev pub invariant-loop-round : goal.invariant-loop-round
invariant-loop-round g l = record {
  some : 1 ≤ l.now;
  on : EachPair (SlotOn g.I.Inputs.told g.I.Inputs.is_open) l.beams.items l.inputs;
  moved : (n : ℕ) × PairsMoved (SlotMoved g.I.Inputs.told g.I.Inputs.is_calm g.I.Inputs.faults n) l.fn.inputs
      l.fn.beams.items l.inputs l.beams.items;
}
