use Rattle.std.proofs.Common.{ℕ, ◌+◌, ◌-◌, ◌<◌, arith, length, slice_index}
use Rattle.subband_plan.proofs.Making.{row_labelled, labelled_more}
use Rattle.subband_plan.proofs.rows.delay_rows.Goals as goal

pub loop-r-preserved : goal.loop-r-preserved
loop-r-preserved c =
    let nodes = c.args.nodes.now in
    let starts = c.args.starts.now in
    let labels = c.args.labels.now in
    let r : ℕ = c.loop-r.r in
    let delay : ℕ = c.least_row.result + (r - slice_index starts (slice_index labels r)) in
    let entries = c.requires.labels.entries in
    let below : r < slice_index starts (length nodes) = omega arith in
    let least = c.least_row.ensures in
    rw c.in_ok-push.ensures.items
    (labelled_more nodes starts labels c.loop-r.delays.items r delay c.loop-r.invariant.0 c.loop-r.invariant.1
    (row_labelled nodes starts labels (slice_index starts (length nodes)) r c.requires.starts c.requires.labels below
    delay (omega arith)))
