use Rattle.std.proofs.Common.{arith}
use Rattle.fdmt_rows.proofs.Steps.{cast_stored}
use Rattle.fdmt_rows.proofs.lanes.widen_lanes.Goals as goal

pub returns : goal.returns
returns c = cast_stored c.args.out.now c.args.bytes.now c.args.at 16 (omega arith) (omega arith)
