use Rattle.std.specs.Prelude.{◌*◌}
use Rattle.fast_fold.specs.Merging.{IsMerged}
use Rattle.fast_fold.proofs.merge.merge_block.Given as goal

abbrev pub invariant-loop-j : goal.invariant-loop-j
invariant-loop-j l = IsMerged l.out l.halves l.period l.rows (2 * l.j)
