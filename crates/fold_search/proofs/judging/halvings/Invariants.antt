use Rattle.std.proofs.Common.{◌+◌, ◌-◌, ◌*◌, ◌^◌, ◌<◌, ◌≤◌, ◌≡◌}
use Rattle.search_model.specs.Folds.{halvings as halvings_of}
use Rattle.fold_search.proofs.judging.halvings.Given as goal

-- so many fit, and the next number is tried
abbrev pub invariant-loop-halvings : goal.invariant-loop-halvings
invariant-loop-halvings l = record {
  within : l.halvings ≤ l.most;
  next : l.next ≡ 2 ^ (l.halvings + 1) * l.period;
  value : halvings_of l.halvings l.period l.room ≡ l.halvings;
  fits : 0 < l.halvings → 2 ^ l.halvings * l.period ≤ l.room;
}

abbrev pub decreases-loop-halvings : goal.decreases-loop-halvings
decreases-loop-halvings l = l.most - l.halvings
