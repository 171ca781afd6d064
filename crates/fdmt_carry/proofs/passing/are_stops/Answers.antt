use Rattle.fdmt_carry.proofs.Stops.{shown_more}
use Rattle.fdmt_carry.proofs.passing.are_stops.Goals as goal

pub loop-d-preserved : goal.loop-d-preserved
loop-d-preserved c =
    shown_more c.args.plan.now c.args.rows.now c.args.orders.now c.args.stops.now c.whole_band-band.result.first_row
    c.loop-d.d c.row_number.result c.loop-d.invariant c.loop-d.auto.d c.row_number.ensures.number
    (c.is_stop.ensures c.if-not-is_stop.false)
