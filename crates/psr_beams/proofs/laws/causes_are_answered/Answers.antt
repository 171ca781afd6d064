use Rattle.psr_beams.specs.Seen.{calm_at}
use Rattle.psr_beams.proofs.Causes.{causes_are_answered}
use Rattle.psr_beams.proofs.laws.causes_are_answered.Goals as goal

pub returns : goal.returns
returns g c = λ inputs. causes_are_answered (calm_at g.I.Inputs.is_calm inputs)
