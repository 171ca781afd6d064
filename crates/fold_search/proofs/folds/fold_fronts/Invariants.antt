use Rattle.std.proofs.Common.{ℕ, ◌+◌, ◌*◌, ◌^◌, ◌≤◌, List}
use Rattle.search_model.specs.Samples.{Filterbank}
use Rattle.fast_fold.specs.Folding.{HaveSameRoom}
use Rattle.fold_search.specs.Judging.{Adds}
use Rattle.fold_search.specs.FoldSearch.{AreOfSeries, folds_of_delays}
use Rattle.fold_search.specs.Cells.{cells_by}
use Rattle.fold_search.proofs.folds.fold_fronts.Given as goal

-- the delays so far were added
abbrev pub invariant-loop-at : goal.invariant-loop-at
invariant-loop-at l = record {
  room : HaveSameRoom l.folder l.fn.folder;
  folds : (f : Filterbank) (edges : List ℕ) → AreOfSeries l.fronts f edges l.first →
      Adds l.fn.book l.book (folds_of_delays f edges (cells_by l.cells) l.search l.first l.at);
  count : l.book.count ≤ l.fn.book.count + l.at * 2 ^ 42;
}
