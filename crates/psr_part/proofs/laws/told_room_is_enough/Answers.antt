use Rattle.psr_part.proofs.Causes.{told_room_is_enough}
use Rattle.psr_part.proofs.laws.told_room_is_enough.Goals as goal

pub returns : goal.returns
returns g c inputs = told_room_is_enough c.texts_say_one.ensures (g.I.Inputs.is_calm inputs)
