use Rattle.std.proofs.Common.{◌≡◌}
use Rattle.search_bench.proofs.rows.fold_often.Given as goal

abbrev pub invariant-loop-done : goal.invariant-loop-done
invariant-loop-done l = record {
  longest : l.folder.longest ≡ l.period;
  most : l.folder.most ≡ l.halvings;
}
