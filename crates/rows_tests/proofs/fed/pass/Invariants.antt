use Rattle.rows_tests.proofs.Passing.{GoesOn}
use Rattle.rows_tests.proofs.fed.pass.Given as goal

abbrev pub invariant-loop-d : goal.invariant-loop-d
invariant-loop-d l = GoesOn l.initial.carry l.carry l.d
