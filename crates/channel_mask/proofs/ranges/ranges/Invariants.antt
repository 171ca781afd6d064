use Rattle.std.proofs.Common.{length}
use Rattle.channel_mask.proofs.Items.{Reads}
use Rattle.channel_mask.proofs.ranges.ranges.Given as goal

abbrev pub invariant-loop-item : goal.invariant-loop-item
invariant-loop-item l = Reads l.fn.text l.rest l.ranges.items

abbrev pub decreases-loop-item : goal.decreases-loop-item
decreases-loop-item l = length l.rest
