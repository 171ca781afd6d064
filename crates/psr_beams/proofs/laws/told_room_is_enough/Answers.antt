use Rattle.psr_beams.specs.Seen.{calm_at}
use Rattle.psr_beams.proofs.Causes.{told_room}
use Rattle.psr_beams.proofs.laws.told_room_is_enough.Goals as goal

pub returns : goal.returns
returns g c = λ inputs. told_room (calm_at g.I.Inputs.is_calm inputs)
