use Rattle.std.proofs.Common.{◌≡◌, length}
use Rattle.search_opening.proofs.engines.no_banks.Given as goal

-- as many slots as shards so far
abbrev pub invariant-loop-shard : goal.invariant-loop-shard
invariant-loop-shard l = length l.banks.items ≡ l._shard
