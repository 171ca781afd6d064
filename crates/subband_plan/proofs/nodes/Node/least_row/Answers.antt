use Rattle.std.proofs.Common.{arith, sym}
use Rattle.subband_plan.proofs.Numbers.{least_small, least_more}
use Rattle.subband_plan.proofs.nodes.Node.least_row.Goals as goal

pub returns-then-self-ge3 : goal.returns-then-self-ge3
returns-then-self-ge3 c = sym (least_more c.args.self (omega arith))

pub returns-else-self-ge3 : goal.returns-else-self-ge3
returns-else-self-ge3 c = sym (least_small c.args.self (omega arith))
