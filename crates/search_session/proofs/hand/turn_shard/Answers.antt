use Rattle.std.proofs.Common.{Some}
use Rattle.session_readers.specs.Shards.{ShardOn}
use Rattle.search_session.proofs.Moves.{shard_still}
use Rattle.search_session.proofs.hand.turn_shard.Goals as goal

pub returns-then-shard-clause-moved : goal.returns-then-shard-clause-moved
returns-then-shard-clause-moved g c =
    let x = c.in-Some.shard in
    let on : ShardOn c.args.hdu.now x =
    rw c.in-Some.is at c.requires in
    rw c.in-Some.is (shard_still 1 x on.count c.if-shard.true)
