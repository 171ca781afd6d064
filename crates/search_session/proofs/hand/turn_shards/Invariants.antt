use Rattle.session_readers.specs.Shards.{ShardMoved}
use Rattle.search_session.specs.Hands.{SlotMoved, FirstMoved, ShardsOn}
use Rattle.search_session.proofs.hand.turn_shards.Given as goal

abbrev pub invariant-loop-place : goal.invariant-loop-place
invariant-loop-place g l = record {
  on : ShardsOn l.hdu l.slots;
  moved : FirstMoved (SlotMoved (ShardMoved 1)) l.place l.fn.slots l.slots;
}
