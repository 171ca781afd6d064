use Rattle.search_model.proofs.Shards.{one_shard}
use Rattle.search_model.proofs.laws.one_shard_is_all.Goals as goal

pub returns : goal.returns
returns c = one_shard
