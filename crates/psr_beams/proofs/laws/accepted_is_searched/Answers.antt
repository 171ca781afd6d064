use Rattle.psr_beams.specs.Seen.{calm_at}
use Rattle.psr_beams.proofs.Causes.{accepted_is_searched}
use Rattle.psr_beams.proofs.laws.accepted_is_searched.Goals as goal

pub returns : goal.returns
returns g c = λ inputs. accepted_is_searched (calm_at g.I.Inputs.is_calm inputs)
