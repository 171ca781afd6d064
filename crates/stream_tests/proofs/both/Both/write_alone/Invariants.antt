use Rattle.dada_hdu.specs.Passes.{WritesBoth}
use Rattle.stream_tests.proofs.both.Both.write_alone.Given as goal

abbrev pub invariant-loop-turn : goal.invariant-loop-turn
invariant-loop-turn l = WritesBoth l.hdu l.writer
