use Rattle.fast_fold.specs.Folding.{IsAt, HaveSameRoom}
use Rattle.search_bench.proofs.rows.greatest_of_fold.Given as goal

abbrev pub invariant-loop-level : goal.invariant-loop-level
invariant-loop-level l = record {
  at : IsAt l.folder l.period l.halvings l.level;
  room : HaveSameRoom l.folder l.fn.folder;
}
