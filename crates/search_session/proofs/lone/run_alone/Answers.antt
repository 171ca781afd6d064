use Rattle.std.proofs.Common.{◌+◌}
use Rattle.search_session.proofs.LoneTurns.{lone_none, lone_more}
use Rattle.search_session.proofs.lone.run_alone.Goals as goal

pub loop-turn-init : goal.loop-turn-init
loop-turn-init g c = record {
  on = c.requires.begins.on;
  file = c.requires.file;
  moved = (
    0,
    lone_none g.I.Inputs.told g.I.Inputs.is_open g.I.Inputs.is_calm g.I.Inputs.faults c.args.inputs.now c.args.session
        c.requires.begins.on,
  );
}

pub loop-turn-preserved : goal.loop-turn-preserved
loop-turn-preserved g c =
    let before = c.loop-turn.invariant.moved in
    record {
      on = c.turn.ensures.on;
      file = c.turn.ensures.file;
      moved = (
        before.0 + 1,
        lone_more g.I.Inputs.told g.I.Inputs.is_open g.I.Inputs.is_calm g.I.Inputs.faults before.0 1 c.args.inputs.now
            c.loop-turn.inputs c.turn.new.inputs c.args.session c.loop-turn.session c.turn.new.self before.1
            c.turn.ensures.moved,
      );
    }

pub returns-then-turn : goal.returns-then-turn
returns-then-turn g c =
    let before = c.loop-turn.invariant.moved in
    c.lone_sessions_end.ensures c.args.session c.turn.new.self c.args.inputs.now c.turn.new.inputs (before.0 + 1)
    c.close.result c.requires.begins
    (lone_more g.I.Inputs.told g.I.Inputs.is_open g.I.Inputs.is_calm g.I.Inputs.faults before.0 1 c.args.inputs.now
    c.loop-turn.inputs c.turn.new.inputs c.args.session c.loop-turn.session c.turn.new.self before.1
    c.turn.ensures.moved) c.turn.ensures.on (c.turn.ensures.ended.0 c.if-turn.true) c.close.ensures
