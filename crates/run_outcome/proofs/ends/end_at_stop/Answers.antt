use Rattle.run_outcome.proofs.Endings.{at_stop}
use Rattle.run_outcome.proofs.ends.end_at_stop.Goals as goal

pub returns : goal.returns
returns g c inputs = at_stop (g.I.Inputs.is_calm inputs)
