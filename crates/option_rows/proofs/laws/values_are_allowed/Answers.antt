use Rattle.option_rows.proofs.Allowed.{values_are_allowed}
use Rattle.option_rows.proofs.laws.values_are_allowed.Goals as goal

pub returns : goal.returns
returns c = values_are_allowed
