use Rattle.std.proofs.Common.{slice_index, max, ◌∙◌, ap}
use Rattle.std.proofs.lemmas.Simd.{get_or-chunk}
use Rattle.fdmt_rows.proofs.maxima.max_lanes.Goals as goal

pub returns-clause-greater : goal.returns-clause-greater
returns-clause-greater c = λ j lt.
    c.greater_lanes.ensures.greater j lt
    ∙ ap (λ y. max (slice_index c.args.lanes j) y) (get_or-chunk c.args.at 16 c.args.row.now j 0 lt)
