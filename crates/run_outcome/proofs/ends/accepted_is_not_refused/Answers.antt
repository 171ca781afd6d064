use Rattle.run_outcome.proofs.Accepted.{is_not_refused}
use Rattle.run_outcome.proofs.ends.accepted_is_not_refused.Goals as goal

pub returns : goal.returns
returns c = is_not_refused
