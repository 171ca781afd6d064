use Rattle.std.proofs.Common.{◌<◌, Option, length, sym, subst, arith}
use Rattle.std.specs.Prelude.{IfSome}
use Rattle.session_readers.specs.declared.shard.ShardActor.{ShardActor}
use Rattle.session_readers.specs.Shards.{ShardOn}
use Rattle.search_session.proofs.hand.shards_could_move.Goals as goal

pub shard_could_move-requires : goal.shard_could_move-requires
shard_could_move-requires c =
    let near : c.loop-place.place < length c.args.slots.now = omega arith in
    subst (λ (slot : Option ShardActor). IfSome slot (ShardOn c.args.hdu.now)) (sym c.index-slots-place.is)
    (c.requires c.loop-place.place c.index-slots-place.result near)
