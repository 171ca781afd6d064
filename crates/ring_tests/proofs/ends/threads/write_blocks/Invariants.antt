use Rattle.ring_ends.specs.Passes.{WritesTo}
use Rattle.ring_tests.proofs.ends.threads.write_blocks.Given as goal

abbrev pub invariant-loop-try : goal.invariant-loop-try
invariant-loop-try l = WritesTo l.ring l.writer
