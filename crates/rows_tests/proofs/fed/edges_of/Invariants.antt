use Rattle.rows_tests.proofs.Edges.{FallTo}
use Rattle.rows_tests.proofs.fed.edges_of.Given as goal

abbrev pub invariant-loop-c : goal.invariant-loop-c
invariant-loop-c l = FallTo l.edges.items l.channels l.c
