use Rattle.std.proofs.Common.{arith}
use Rattle.fdmt_rows.specs.Rows.{narrow_sum}
use Rattle.fdmt_rows.proofs.Steps.{stored, zipped, length_zipped}
use Rattle.fdmt_rows.proofs.narrow.add_lanes.Goals as goal

pub returns : goal.returns
returns c =
    stored c.args.out.now _ c.args.at 16 _
    (length_zipped narrow_sum c.args.a.now c.args.b.now c.args.at 16 (omega arith) (omega arith))
    (omega arith)
    (zipped narrow_sum c.args.a.now c.args.b.now c.args.at 16 (omega arith) (omega arith))
