use Rattle.option_rows.proofs.Passing.{none_fails}
use Rattle.option_rows.proofs.laws.none_fails.Goals as goal

pub returns : goal.returns
returns g c = none_fails
