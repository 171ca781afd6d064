use Rattle.std.proofs.Common.{arith}
use Rattle.fdmt_rows.proofs.Steps.{copied}
use Rattle.fdmt_rows.proofs.copies.copy_narrow_lanes.Goals as goal

pub returns : goal.returns
returns c = copied c.args.out.now c.args.values.now c.args.at 16 (omega arith) (omega arith)
