use Rattle.std.proofs.Common.{◌≤◌, vec_len}
use Rattle.ring_ends.specs.Passes.{ring_shape, WritesTo}
use Rattle.ring_bench.proofs.threads.write_all.Given as goal

abbrev pub invariant-loop-try : goal.invariant-loop-try
invariant-loop-try l = WritesTo l.ring l.pass × ((ring_shape l.ring).size ≤ vec_len l.space)
