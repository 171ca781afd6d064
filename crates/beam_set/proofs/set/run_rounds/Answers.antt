use Rattle.std.proofs.Common.{arith}
use Rattle.beam_set.proofs.Turned.{set_none, set_more}
use Rattle.beam_set.proofs.set.run_rounds.Goals as goal

pub loop-round-init : goal.loop-round-init
loop-round-init g c = record {
  some = omega (arith, c.requires.turns, c.first_round-now.ensures);
  on = c.requires.on;
  moved = set_none g.I.Inputs.told g.I.Inputs.is_open g.I.Inputs.is_calm g.I.Inputs.faults c.lone_turns_add.ensures
      c.requires.on;
}

pub loop-round-preserved : goal.loop-round-preserved
loop-round-preserved g c = record {
  some = c.next_round-now.ensures.some;
  on = c.drive_from.ensures.on;
  moved = set_more g.I.Inputs.told g.I.Inputs.is_open g.I.Inputs.is_calm g.I.Inputs.faults c.lone_turns_add.ensures
      c.loop-round.now c.loop-round.invariant.moved c.drive_from.ensures.moved;
}

pub returns-then-all_ended-clause-moved : goal.returns-then-all_ended-clause-moved
returns-then-all_ended-clause-moved g c =
    set_more g.I.Inputs.told g.I.Inputs.is_open g.I.Inputs.is_calm g.I.Inputs.faults c.lone_turns_add.ensures
    c.loop-round.now c.loop-round.invariant.moved c.drive_from.ensures.moved
