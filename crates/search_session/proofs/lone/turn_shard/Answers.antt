use Rattle.search_session.proofs.Moves.{shard_still}
use Rattle.search_session.proofs.lone.turn_shard.Goals as goal

pub returns-then-shard-clause-moved : goal.returns-then-shard-clause-moved
returns-then-shard-clause-moved c = shard_still 1 c.args.shard.now c.requires.on.count c.if-shard.true
