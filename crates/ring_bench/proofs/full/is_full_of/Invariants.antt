use Rattle.std.proofs.Common.{◌≡◌, true}
use Rattle.ring_bench.specs.Full.{IsFullTo}
use Rattle.ring_bench.proofs.full.is_full_of.Given as goal

abbrev pub invariant-loop-k : goal.invariant-loop-k
invariant-loop-k l = l.right ≡ true → IsFullTo l.block l.byte l.k
