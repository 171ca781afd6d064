use Rattle.std.proofs.Common.{slice_index, max, ◌∙◌, ap, arith}
use Rattle.fdmt_rows.specs.Rows.{wrapping_sum}
use Rattle.fdmt_rows.proofs.Steps.{stored, zipped, length_zipped}
use Rattle.fdmt_rows.proofs.adding_maxima.add_and_compare.Goals as goal

pub returns-clause-added : goal.returns-clause-added
returns-clause-added c =
    stored c.args.out.now _ c.args.at 16 _
    (length_zipped wrapping_sum c.args.a.now c.args.b.now c.args.at 16 (omega arith) (omega arith))
    (omega arith)
    (zipped wrapping_sum c.args.a.now c.args.b.now c.args.at 16 (omega arith) (omega arith))

pub returns-clause-greater : goal.returns-clause-greater
returns-clause-greater c = λ j lt.
    c.greater_lanes.ensures.greater j lt
    ∙ ap (λ y. max (slice_index c.args.lanes j) y)
    (zipped wrapping_sum c.args.a.now c.args.b.now c.args.at 16 (omega arith) (omega arith) j lt)
