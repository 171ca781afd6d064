use Rattle.std.proofs.Common.{◌≡◌, vec_len}
use Rattle.search_bench.proofs.engine.noise.Given as goal

abbrev pub invariant-loop-done : goal.invariant-loop-done
invariant-loop-done l = vec_len l.samples ≡ l.done
