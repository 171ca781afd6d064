use Rattle.std.proofs.Common.{◌≤◌, length}
use Rattle.dada_hdu.specs.Passes.{ReadsBoth}
use Rattle.stream_tests.proofs.threads.read_all.Given as goal

abbrev pub invariant-loop-try : goal.invariant-loop-try
invariant-loop-try l = ReadsBoth l.hdu l.reader × (65537 ≤ length l.into)
