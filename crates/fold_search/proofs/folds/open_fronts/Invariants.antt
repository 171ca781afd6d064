use Rattle.std.proofs.Common.{◌≡◌, ℕ, ◌-◌, [], length}
use Rattle.std.specs.Prelude.{slice_index_or}
use Rattle.fold_search.specs.Series.{no_front}
use Rattle.fold_search.specs.FoldSearch.{AreFronts}
use Rattle.fold_search.proofs.folds.open_fronts.Given as goal

abbrev pub invariant-loop-delay : goal.invariant-loop-delay
invariant-loop-delay l = record {
  count : length l.fronts.items ≡ l.delay - l.first;
  fronts : AreFronts l.search l.first l.fronts.items;
  none : (k : ℕ) → (slice_index_or l.fronts.items k no_front).values ≡ [];
}
