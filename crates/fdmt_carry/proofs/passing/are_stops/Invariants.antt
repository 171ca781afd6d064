use Rattle.fdmt_carry.proofs.Stops.{AreShown}
use Rattle.fdmt_carry.proofs.passing.are_stops.Given as goal

abbrev pub invariant-loop-d : goal.invariant-loop-d
invariant-loop-d l = AreShown l.plan l.rows l.orders l.stops l.band.first_row l.d
