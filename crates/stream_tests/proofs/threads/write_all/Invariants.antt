use Rattle.dada_hdu.specs.Passes.{WritesBoth}
use Rattle.stream_tests.proofs.threads.write_all.Given as goal

abbrev pub invariant-loop-try : goal.invariant-loop-try
invariant-loop-try l = WritesBoth l.hdu l.writer
