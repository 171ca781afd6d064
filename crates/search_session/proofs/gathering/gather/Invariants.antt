use Rattle.std.proofs.Common.{ℕ, ◌<◌, ◌≤◌, length}
use Rattle.session_readers.specs.declared.shard.ShardActor.{ShardActor}
use Rattle.search_session.specs.Stages.{HasShard, IsInHand, AreGathered}
use Rattle.search_session.proofs.gathering.gather.Given as goal

abbrev pub invariant-loop-s : goal.invariant-loop-s
invariant-loop-s g l = record {
  some : 0 < length l.hands;
  rest : (s : ℕ) → l.s ≤ s → s < l.count → HasShard l.hands s;
  still : (x : ShardActor) → IsInHand l.hands x → IsInHand l.fn.hands x;
  gathered : AreGathered l.fn.hands l.s l.shards.items;
}
