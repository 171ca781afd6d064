use Rattle.std.proofs.Common.{arith}
use Rattle.fdmt_rows.specs.Rows.{wrapping_sum}
use Rattle.fdmt_rows.proofs.Steps.{stored, zipped, length_zipped}
use Rattle.fdmt_rows.proofs.lanes.add_to_lanes.Goals as goal

pub returns : goal.returns
returns c =
    stored c.args.row.now _ c.args.at 16 _
    (length_zipped wrapping_sum c.args.row.now c.args.a.now c.args.at 16 (omega arith) (omega arith))
    (omega arith)
    (zipped wrapping_sum c.args.row.now c.args.a.now c.args.at 16 (omega arith) (omega arith))
