use Rattle.std.proofs.Common.{arith}
use Rattle.fdmt_rows.proofs.Steps.{stored}
use Rattle.fdmt_rows.proofs.excess.write_excess_lanes.Goals as goal

pub returns : goal.returns
returns c =
    stored c.args.out.now c.excess_at.result c.args.at 16 _ c.excess_at.ensures.long (omega arith)
    c.excess_at.ensures.excess
