use Rattle.std.proofs.Common.{ℕ, ◌+◌}
use Rattle.search_session.specs.Hands.{EachMoved, HandMoved}
use Rattle.search_session.proofs.Handling.{hands_none, hands_more}
use Rattle.search_session.proofs.session.run_rounds.Goals as goal
use Rattle.search_session.proofs.session.run_rounds.Goals.{After-round_and_retire-had_threads}

pub loop-round-init : goal.loop-round-init
loop-round-init g c = record {
  on = c.requires;
  moved = (
    0,
    hands_none g.I.Inputs.told g.I.Inputs.is_open g.I.Inputs.is_calm g.I.Inputs.faults g.F.Files.is_open g.F.Files.seen
        c.args.hdu.now c.args.hands.now c.requires,
  );
}

-- the turns of all rounds so far
moved : (g : _) (c : After-round_and_retire-had_threads g) → (turns : ℕ) × EachMoved (HandMoved g.I.Inputs.told
    g.I.Inputs.is_calm g.I.Inputs.faults g.F.Files.seen turns) c.args.hands.now
    c.round_and_retire-had_threads.new.hands
moved g c =
    let before = c.loop-round.invariant.moved in (
      before.0 + c.turns_now-now.result,
      hands_more g.I.Inputs.told g.I.Inputs.is_open g.I.Inputs.is_calm g.I.Inputs.faults g.F.Files.is_open
          g.F.Files.seen before.0 c.turns_now-now.result c.args.hands.now c.loop-round.hands
          c.round_and_retire-had_threads.new.hands before.1 c.round_and_retire-had_threads.ensures.moved,
    )

pub loop-round-preserved : goal.loop-round-preserved
loop-round-preserved g c = record {
  on = c.round_and_retire-had_threads.ensures.on;
  moved = moved g (goal.at.loop-round-preserved g c).After-round_and_retire-had_threads;
}

pub returns-then-all_ended : goal.returns-then-all_ended
returns-then-all_ended g c = record {
  on = c.round_and_retire-had_threads.ensures.on;
  ended = c.all_ended.ensures.0 c.if-all_ended.true;
  retired = c.round_and_retire-had_threads.ensures.retired;
  moved = moved g (goal.at.returns-then-all_ended g c).After-round_and_retire-had_threads;
}
