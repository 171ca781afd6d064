use Rattle.psr_mask.proofs.Causes.{told_room_is_enough}
use Rattle.psr_mask.proofs.laws.told_room_is_enough.Goals as goal

pub returns : goal.returns
returns g c inputs = told_room_is_enough (g.I.Inputs.is_calm inputs)
