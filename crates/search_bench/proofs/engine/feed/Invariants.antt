use Rattle.std.proofs.Common.{◌≡◌, ◌*◌, ◌^◌, ◌≤◌, false}
use Rattle.search_bench.proofs.engine.feed.Given as goal

abbrev pub invariant-loop-turn : goal.invariant-loop-turn
invariant-loop-turn l = record {
  running : l.engine.has_ended ≡ false;
  few : l.engine.fed ≤ l.turn * 2 ^ 18;
}
