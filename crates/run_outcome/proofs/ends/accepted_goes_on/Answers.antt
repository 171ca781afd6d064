use Rattle.run_outcome.proofs.Accepted.{goes_on}
use Rattle.run_outcome.proofs.ends.accepted_goes_on.Goals as goal

pub returns : goal.returns
returns g c inputs = goes_on (g.I.Inputs.is_calm inputs)
