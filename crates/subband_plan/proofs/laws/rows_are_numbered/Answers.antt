use Rattle.subband_plan.proofs.Numbers.{numbered}
use Rattle.subband_plan.proofs.laws.rows_are_numbered.Goals as goal

pub returns : goal.returns
returns c = numbered c.asked_rows_are_there.ensures
