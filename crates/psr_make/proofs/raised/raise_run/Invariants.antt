use Rattle.psr_make.specs.Raised.{Raises, by_run}
use Rattle.psr_make.proofs.raised.raise_run.Given as goal

abbrev pub invariant-loop-t : goal.invariant-loop-t
invariant-loop-t l = Raises l.spec l.fn.bytes l.bytes (by_run l.spec l.channel l.start l.t)
