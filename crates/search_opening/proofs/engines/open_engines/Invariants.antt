use Rattle.search_opening.proofs.Built.{AreBuilt}
use Rattle.search_opening.proofs.Banks.{HasEngineFor}
use Rattle.search_opening.proofs.engines.open_engines.Given as goal

-- the engines of the transfers before
abbrev pub invariant-loop-k : goal.invariant-loop-k
invariant-loop-k l = record {
  built : AreBuilt (HasEngineFor l.search l.shard l.observations) l.k l.engines.items;
}
