use Rattle.psr_beams.specs.Seen.{calm_at}
use Rattle.psr_beams.proofs.Causes.{short_beams}
use Rattle.psr_beams.proofs.laws.short_beams_are_answered.Goals as goal

pub returns : goal.returns
returns g c = λ inputs. short_beams (calm_at g.I.Inputs.is_calm inputs)
