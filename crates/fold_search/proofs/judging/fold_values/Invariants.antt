use Rattle.std.proofs.Common.{◌+◌, ◌-◌, ◌*◌, ◌^◌, ◌≤◌}
use Rattle.std.specs.List.{range_with_len, flat_map}
use Rattle.fast_fold.specs.Folding.{HaveSameRoom}
use Rattle.fold_search.specs.Judging.{Adds, folds_in_period}
use Rattle.fold_search.specs.Cells.{cells_by}
use Rattle.fold_search.proofs.judging.fold_values.Given as goal

-- the periods so far were added
abbrev pub invariant-loop-period : goal.invariant-loop-period
invariant-loop-period l = record {
  room : HaveSameRoom l.folder l.fn.folder;
  list : Adds l.fn.book l.book
      (flat_map (λ p. folds_in_period (cells_by l.cells) l.search l.delay p l.values)
      (range_with_len l.search.fold_min (l.period - l.search.fold_min)));
  count : l.book.count ≤ l.fn.book.count + (l.period - l.search.fold_min) * 2 ^ 22;
}
