use Rattle.fdmt_carry.proofs.Stops.{ArePlainStops}
use Rattle.fdmt_carry.proofs.plain.plain_stops.Given as goal

abbrev pub invariant-loop-d : goal.invariant-loop-d
invariant-loop-d l = ArePlainStops l.plan l.rows l.plan.first l.d l.stops.items
