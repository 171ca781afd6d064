use Rattle.std.proofs.Common.{arith}
use Rattle.fdmt_rows.proofs.Steps.{stored}
use Rattle.fdmt_rows.proofs.capped.add_capped_lanes.Goals as goal

pub returns : goal.returns
returns c =
    stored c.args.out.now c.sums_at.result c.args.at 16 _ c.sums_at.ensures.long (omega arith) c.sums_at.ensures.sums
