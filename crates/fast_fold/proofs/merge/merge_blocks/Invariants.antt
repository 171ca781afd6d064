use Rattle.fast_fold.specs.Merging.{AreMerged}
use Rattle.fast_fold.proofs.merge.merge_blocks.Given as goal

abbrev pub invariant-loop-b : goal.invariant-loop-b
invariant-loop-b l = AreMerged l.out l.sums l.period l.rows l.b
