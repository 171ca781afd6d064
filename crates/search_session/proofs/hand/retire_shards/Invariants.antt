use Rattle.std.proofs.Common.{◌≡◌, true}
use Rattle.std.specs.Prelude.{IfSome}
use Rattle.session_readers.specs.Shards.{IsRetired, ShardMoved}
use Rattle.search_session.specs.Hands.{SlotMoved, FirstMoved, ShardsOn}
use Rattle.search_session.proofs.Handling.{FirstAre}
use Rattle.search_session.proofs.hand.retire_shards.Given as goal

abbrev pub invariant-loop-place : goal.invariant-loop-place
invariant-loop-place l = record {
  on : ShardsOn l.hdu l.slots;
  moved : FirstMoved (SlotMoved (ShardMoved 0)) l.place l.fn.slots l.slots;
  retired : FirstAre (λ slot. IfSome slot (λ x. x.ended ≡ true → IsRetired x.pass)) l.place l.slots;
}
