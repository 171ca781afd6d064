use Rattle.dada_hdu.specs.Passes.{ReadsBoth}
use Rattle.stream_tests.proofs.feeding.Fed.drain_all.Given as goal

abbrev pub invariant-loop-rest : goal.invariant-loop-rest
invariant-loop-rest l = ReadsBoth l.hdu l.reader
