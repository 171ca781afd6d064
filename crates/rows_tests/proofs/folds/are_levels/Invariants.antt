use Rattle.fast_fold.specs.Folding.{IsAt}
use Rattle.rows_tests.proofs.folds.are_levels.Given as goal

abbrev pub invariant-loop-level : goal.invariant-loop-level
invariant-loop-level l = IsAt l.folder l.p l.m l.level
