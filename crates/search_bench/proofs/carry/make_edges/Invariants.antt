use Rattle.search_bench.proofs.Edges.{FallTo}
use Rattle.search_bench.proofs.carry.make_edges.Given as goal

abbrev pub invariant-loop-c : goal.invariant-loop-c
invariant-loop-c l = FallTo l.edges.items l.c
