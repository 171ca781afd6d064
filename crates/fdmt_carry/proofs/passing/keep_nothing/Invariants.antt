use Rattle.fdmt_carry.specs.Leaving.{KeepNothing}
use Rattle.fdmt_carry.proofs.passing.keep_nothing.Given as goal

abbrev pub invariant-loop-r : goal.invariant-loop-r
invariant-loop-r l = KeepNothing l.tails l.r
