use Rattle.psr_search.proofs.Causes.{told_room_is_enough}
use Rattle.psr_search.proofs.laws.told_room_is_enough.Goals as goal

pub returns : goal.returns
returns g c inputs = told_room_is_enough (g.I.Inputs.is_calm inputs)
