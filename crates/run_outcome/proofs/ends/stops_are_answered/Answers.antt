use Rattle.run_outcome.proofs.Stopped.{stops_answered}
use Rattle.run_outcome.proofs.ends.stops_are_answered.Goals as goal

pub returns : goal.returns
returns g c inputs =
    stops_answered c.first_stop_counts.ensures c.no_stop_is_whole.ensures (g.I.Inputs.is_calm inputs)
