use Rattle.std.proofs.Common.{◌-◌}
use Rattle.fdmt_carry.proofs.draft.Drafting.+open_node.Given as goal

abbrev pub decreases-open_node : goal.decreases-open_node
decreases-open_node l = 13 - l.depth
