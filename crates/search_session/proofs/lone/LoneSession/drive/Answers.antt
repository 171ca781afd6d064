use Rattle.std.proofs.Common.{◌+◌, ◌≤◌, arith}
use Rattle.search_session.proofs.LoneTurns.{lone_none, lone_more, lone_rest}
use Rattle.search_session.proofs.lone.LoneSession.drive.Goals as goal

pub loop-turn-init : goal.loop-turn-init
loop-turn-init g c = record {
  on = c.requires.on;
  file = c.requires.file;
  moved = lone_none g.I.Inputs.told g.I.Inputs.is_open g.I.Inputs.is_calm g.I.Inputs.faults c.args.inputs.now
      c.args.self.now c.requires.on;
}

pub loop-turn-preserved : goal.loop-turn-preserved
loop-turn-preserved g c = record {
  on = c.turn.ensures.on;
  file = c.turn.ensures.file;
  moved = lone_more g.I.Inputs.told g.I.Inputs.is_open g.I.Inputs.is_calm g.I.Inputs.faults c.loop-turn._turn 1
      c.args.inputs.now c.loop-turn.inputs c.turn.new.inputs c.args.self.now c.loop-turn.self c.turn.new.self
      c.loop-turn.invariant.moved c.turn.ensures.moved;
}

pub returns-then-turn-clause-moved : goal.returns-then-turn-clause-moved
returns-then-turn-clause-moved g c =
    let told = g.I.Inputs.told in
    let is_open = g.I.Inputs.is_open in
    let is_calm = g.I.Inputs.is_calm in
    let faults = g.I.Inputs.faults in
    let most : c.loop-turn._turn + 1 ≤ c.args.turns = omega arith in
    lone_rest told is_open is_calm faults (c.loop-turn._turn + 1) c.args.turns c.args.inputs.now c.turn.new.inputs
    c.args.self.now c.turn.new.self most c.turn.ensures.on (c.turn.ensures.ended.0 c.if-turn.true)
    (lone_more told is_open is_calm faults c.loop-turn._turn 1 c.args.inputs.now c.loop-turn.inputs c.turn.new.inputs
    c.args.self.now c.loop-turn.self c.turn.new.self c.loop-turn.invariant.moved c.turn.ensures.moved)
