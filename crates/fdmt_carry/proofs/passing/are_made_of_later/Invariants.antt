use Rattle.fdmt_carry.specs.Leaving.{AreMadeOfLater}
use Rattle.fdmt_carry.proofs.passing.are_made_of_later.Given as goal

abbrev pub invariant-loop-r : goal.invariant-loop-r
invariant-loop-r l = AreMadeOfLater l.sources l.r l.count
