use Rattle.std.proofs.Common.{◌-◌}
use Rattle.subband_plan.proofs.nodes.Node.+grow.Given as goal

abbrev pub decreases-grow : goal.decreases-grow
decreases-grow l = l.self.hi - l.self.lo
