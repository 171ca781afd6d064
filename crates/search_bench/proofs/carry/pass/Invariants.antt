use Rattle.search_bench.proofs.Passing.{GoesOn}
use Rattle.search_bench.proofs.carry.pass.Given as goal

abbrev pub invariant-loop-d : goal.invariant-loop-d
invariant-loop-d l = GoesOn l.initial.carry l.carry l.d
