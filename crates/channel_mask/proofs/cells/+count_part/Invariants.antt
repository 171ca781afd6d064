use Rattle.std.proofs.Common.{◌-◌}
use Rattle.channel_mask.specs.Counting.{AreCounts}
use Rattle.channel_mask.proofs.cells.+count_part.Given as goal

abbrev pub decreases-count_part : goal.decreases-count_part
decreases-count_part l = l.hi - l.lo

abbrev pub invariant-loop-d : goal.invariant-loop-d
invariant-loop-d l = AreCounts l.edges l.masked l.lo l.hi l.d l.counts.items
