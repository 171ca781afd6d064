-- What can be sought over more channels.
use Rattle.std.proofs.Common.{ℕ, ◌≤◌, arith}
use Rattle.shard_search.specs.Sought.{Sought, CanBeSought}

-- what can be sought over some channels can be sought over more
pub over_more : (c : Sought) (n m end : ℕ) → n ≤ m → CanBeSought c n end → CanBeSought c m end
over_more c n m end more can = record {
  cells = λ d below. let few = can.cells d below in omega (arith, few, more);
  early = can.early;
}
