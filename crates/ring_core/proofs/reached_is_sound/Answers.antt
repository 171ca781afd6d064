use Rattle.ring_core.proofs.First.{sound_reached}
use Rattle.ring_core.proofs.reached_is_sound.Goals as goal

pub returns : goal.returns
returns g c = sound_reached
