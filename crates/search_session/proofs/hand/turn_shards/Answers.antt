use Rattle.std.proofs.Common.{◌<◌, ◌≤◌, Option, length, sym, subst, arith}
use Rattle.std.specs.Prelude.{IfSome}
use Rattle.std.proofs.lemmas.List.Elements.{All-set}
use Rattle.session_readers.specs.declared.shard.ShardActor.{ShardActor}
use Rattle.session_readers.specs.Shards.{ShardOn, ShardMoved}
use Rattle.search_session.specs.Hands.{SlotMoved}
use Rattle.search_session.proofs.Handling.{first_none, first_more, first_all}
use Rattle.search_session.proofs.hand.turn_shards.Goals as goal

pub loop-place-init : goal.loop-place-init
loop-place-init g c = record {
  on = c.requires;
  moved = first_none (SlotMoved (ShardMoved 1)) c.args.slots.now;
}

pub turn_shard-requires : goal.turn_shard-requires
turn_shard-requires g c =
    let near : c.loop-place.place < length c.loop-place.slots = omega arith in
    c.loop-place.invariant.on c.loop-place.place c.index-slots-place.result near

pub loop-place-preserved : goal.loop-place-preserved
loop-place-preserved g c =
    let near : c.loop-place.place < length c.loop-place.slots = omega arith in
    record {
      on = All-set (λ (slot : Option ShardActor). IfSome slot (ShardOn c.args.hdu.now)) c.loop-place.slots
          c.loop-place.place c.turn_shard.new.slot c.turn_shard.ensures.on c.loop-place.invariant.on;
      moved = first_more (SlotMoved (ShardMoved 1)) c.args.slots.now c.loop-place.slots c.loop-place.place
          c.index-slots-place.result c.turn_shard.new.slot near c.loop-place.invariant.moved c.index-slots-place.is
          (subst (λ (slot : Option ShardActor). SlotMoved (ShardMoved 1) slot c.turn_shard.new.slot)
          (sym c.index-slots-place.is) c.turn_shard.ensures.moved);
    }

pub returns : goal.returns
returns g c =
    let all : length c.loop-place.slots ≤ c.loop-place.place = omega arith in
    record {
      on = c.loop-place.invariant.on;
      moved = first_all (SlotMoved (ShardMoved 1)) c.args.slots.now c.loop-place.slots c.loop-place.place all
          c.loop-place.invariant.moved;
    }
