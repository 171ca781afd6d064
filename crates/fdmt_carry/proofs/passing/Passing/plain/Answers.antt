use Rattle.subband_plan.specs.Rows.{all_rows}
use Rattle.fdmt_carry.proofs.Narrow.{none_low}
use Rattle.fdmt_carry.proofs.passing.Passing.plain.Goals as goal

pub returns : goal.returns
returns c = λ m.
    let plain = c.in_ok-schedule.ensures in
    let low = none_low c.args.plan.now c.args.rows.now (all_rows c.args.rows.now) m
    c.in_ok-schedule.schedule.narrow plain.narrow in
    record {
      runs = plain.runs;
      parts = low.1;
      low = low.0;
      stops = c.in_ok-plain_stops.ensures c.in_ok-schedule.schedule.orders plain.orders;
      last = c.are_last.ensures;
    }
