use Rattle.std.proofs.Common.{◌≡◌}
use Rattle.ring_ends.specs.Passes.{reader_knows, ReadsFrom}
use Rattle.ring_tests.proofs.ends.threads.read_again.Given as goal

abbrev pub invariant-loop-try : goal.invariant-loop-try
invariant-loop-try l = ReadsFrom l.ring l.reader × ((reader_knows l.reader).number ≡ (reader_knows l.fn.reader).number)
