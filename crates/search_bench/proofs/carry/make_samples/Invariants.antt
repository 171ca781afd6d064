use Rattle.std.proofs.Common.{◌≡◌, length}
use Rattle.search_bench.proofs.carry.make_samples.Given as goal

abbrev pub invariant-loop-done : goal.invariant-loop-done
invariant-loop-done l = length l.samples.items ≡ l.done
