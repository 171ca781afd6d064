use Rattle.std.proofs.Common.{arith}
use Rattle.fdmt_rows.specs.Rows.{wrapping_sum}
use Rattle.fdmt_rows.proofs.Steps.{stored, zipped_cast, length_zipped_cast}
use Rattle.fdmt_rows.proofs.narrow.add_mixed_lanes.Goals as goal

pub returns : goal.returns
returns c =
    stored c.args.out.now _ c.args.at 16 _
    (length_zipped_cast wrapping_sum c.args.wide.now c.args.narrow.now c.args.at 16 (omega arith) (omega arith))
    (omega arith)
    (zipped_cast wrapping_sum c.args.wide.now c.args.narrow.now c.args.at 16 (omega arith) (omega arith))
