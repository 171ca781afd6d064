use Rattle.std.proofs.Common.{◌-◌, ◌≤◌}
use Rattle.psr_make.specs.Raised.{Raises, by_channel}
use Rattle.psr_make.proofs.raised.raise_channel.Given as goal

abbrev pub invariant-loop-done : goal.invariant-loop-done
invariant-loop-done l = record {
  within : l.done ≤ l.count;
  raised : Raises l.spec l.fn.bytes l.bytes (by_channel l.spec l.channel l.enters l.leaves l.first l.done);
}

abbrev pub decreases-loop-done : goal.decreases-loop-done
decreases-loop-done l = l.count - l.done
