use Rattle.psr_make.specs.Raised.{Raises, by_train}
use Rattle.psr_make.proofs.maker.raise_train.Given as goal

abbrev pub invariant-loop-channel : goal.invariant-loop-channel
invariant-loop-channel l = Raises l.spec l.fn.bytes l.bytes (by_train l.spec l.channel l.first)
