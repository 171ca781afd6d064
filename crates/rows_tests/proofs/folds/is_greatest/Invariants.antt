use Rattle.std.proofs.Common.{◌≡◌, ◌≤◌, vec_len}
use Rattle.std.specs.List.{All}
use Rattle.fast_fold.specs.Folding.{IsAt}
use Rattle.rows_tests.proofs.folds.is_greatest.Given as goal

abbrev pub invariant-loop-value : goal.invariant-loop-value
invariant-loop-value l = record {
  long : vec_len l.above ≡ l.value-index;
  small : All (λ x. x ≤ 900) l.above.items;
}

abbrev pub invariant-loop-level : goal.invariant-loop-level
invariant-loop-level l = record {
  at : IsAt l.folder l.p l.m l._level;
  room : l.m ≤ l.folder.most;
}
