use Rattle.std.proofs.Common.{◌≡◌, ◌<◌, ◌≤◌, true, Option, length, sym, subst, arith}
use Rattle.std.specs.Prelude.{IfSome}
use Rattle.std.proofs.lemmas.List.Elements.{All-set}
use Rattle.session_readers.specs.declared.shard.ShardActor.{ShardActor}
use Rattle.session_readers.specs.Shards.{IsRetired, ShardOn, ShardMoved}
use Rattle.search_session.specs.Hands.{SlotMoved}
use Rattle.search_session.proofs.Handling.{first_none, first_more, first_all, are_none, are_more, are_all}
use Rattle.search_session.proofs.hand.retire_shards.Goals as goal

abbrev Retires : Option ShardActor → Type 0
Retires slot = IfSome slot (λ x. x.ended ≡ true → IsRetired x.pass)

pub loop-place-init : goal.loop-place-init
loop-place-init c = record {
  on = c.requires;
  moved = first_none (SlotMoved (ShardMoved 0)) c.args.slots.now;
  retired = are_none Retires c.args.slots.now;
}

pub retire_shard-requires : goal.retire_shard-requires
retire_shard-requires c =
    let near : c.loop-place.place < length c.loop-place.slots = omega arith in
    c.loop-place.invariant.on c.loop-place.place c.index-slots-place.result near

pub loop-place-preserved : goal.loop-place-preserved
loop-place-preserved c =
    let near : c.loop-place.place < length c.loop-place.slots = omega arith in
    record {
      on = All-set (λ (slot : Option ShardActor). IfSome slot (ShardOn c.args.hdu.now)) c.loop-place.slots
          c.loop-place.place c.retire_shard.new.slot c.retire_shard.ensures.on c.loop-place.invariant.on;
      moved = first_more (SlotMoved (ShardMoved 0)) c.args.slots.now c.loop-place.slots c.loop-place.place
          c.index-slots-place.result c.retire_shard.new.slot near c.loop-place.invariant.moved c.index-slots-place.is
          (subst (λ (slot : Option ShardActor). SlotMoved (ShardMoved 0) slot c.retire_shard.new.slot)
          (sym c.index-slots-place.is) c.retire_shard.ensures.moved);
      retired = are_more Retires c.loop-place.slots c.loop-place.place c.retire_shard.new.slot near
          c.loop-place.invariant.retired c.retire_shard.ensures.retired;
    }

pub returns : goal.returns
returns c =
    let all : length c.loop-place.slots ≤ c.loop-place.place = omega arith in
    record {
      on = c.loop-place.invariant.on;
      moved = first_all (SlotMoved (ShardMoved 0)) c.args.slots.now c.loop-place.slots c.loop-place.place all
          c.loop-place.invariant.moved;
      retired = are_all Retires c.loop-place.slots c.loop-place.place all c.loop-place.invariant.retired;
    }
