use Rattle.std.proofs.Common.{◌≤◌, ◌^◌, All}
use Rattle.search_opening.proofs.Built.{AreBuilt}
use Rattle.search_opening.proofs.Starting.{IsOffsetAt}
use Rattle.search_opening.proofs.offsets.first_offsets.Given as goal

-- the offsets of the transfers before
abbrev pub invariant-loop-k : goal.invariant-loop-k
invariant-loop-k l = record {
  built : AreBuilt (IsOffsetAt l.observations) l.k l.offsets.items;
  bounds : All (λ offset. offset ≤ 10 ^ 15) l.offsets.items;
}
