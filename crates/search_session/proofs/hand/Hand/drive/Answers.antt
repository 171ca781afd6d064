use Rattle.search_session.proofs.Handling.{hand_none, hand_more}
use Rattle.search_session.proofs.hand.Hand.drive.Goals as goal

pub loop-turn-init : goal.loop-turn-init
loop-turn-init g c = record {
  on = c.requires;
  moved = hand_none g.I.Inputs.told g.I.Inputs.is_open g.I.Inputs.is_calm g.I.Inputs.faults
      g.F.Files.is_open g.F.Files.seen c.args.hdu.now c.args.self.now c.requires;
}

pub loop-turn-preserved : goal.loop-turn-preserved
loop-turn-preserved g c = record {
  on = c.turn.ensures.on;
  moved = hand_more g.I.Inputs.told g.I.Inputs.is_open g.I.Inputs.is_calm g.I.Inputs.faults
      g.F.Files.is_open g.F.Files.seen c.loop-turn.turn 1 c.args.self.now c.loop-turn.self
      c.turn.new.self c.loop-turn.invariant.moved c.turn.ensures.moved;
}
