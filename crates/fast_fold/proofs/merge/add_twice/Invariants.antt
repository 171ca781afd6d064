use Rattle.std.proofs.Common.{◌-◌, ◌+◌, ◌≤◌}
use Rattle.fast_fold.specs.Merging.{AddsTurnedTo}
use Rattle.fast_fold.proofs.merge.add_twice.Given as goal

abbrev pub invariant-loop-done : goal.invariant-loop-done
invariant-loop-done l = record {
  within : l.done ≤ l.period;
  even : AddsTurnedTo l.done l.even l.first l.second l.period l.turn;
  odd : AddsTurnedTo l.done l.odd l.first l.second l.period (l.turn + 1);
}

abbrev pub decreases-loop-done : goal.decreases-loop-done
decreases-loop-done l = l.period - l.done
