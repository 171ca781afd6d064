use Rattle.run_outcome.proofs.Endings.{before_session}
use Rattle.run_outcome.proofs.ends.end_before_session.Goals as goal

pub returns : goal.returns
returns g c inputs = before_session (g.I.Inputs.is_calm inputs)
