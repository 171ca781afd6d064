use Rattle.std.proofs.Common.{◌-◌, ◌≤◌, ◌≡◌}
use Rattle.fast_fold.specs.Folding.{StandsForSeries, HaveSameRoom}
use Rattle.fold_search.proofs.judging.fold_all.Given as goal

abbrev pub invariant-loop-folder : goal.invariant-loop-folder
invariant-loop-folder l = record {
  room : HaveSameRoom l.folder l.fn.folder;
  period : l.folder.period ≡ l.period;
  halvings : l.folder.halvings ≡ l.halvings;
  within : l.folder.level ≤ l.halvings;
  sums : StandsForSeries l.folder l.values;
}

abbrev pub decreases-loop-folder : goal.decreases-loop-folder
decreases-loop-folder l = l.halvings - l.folder.level
