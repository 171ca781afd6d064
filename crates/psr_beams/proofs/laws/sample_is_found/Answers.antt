use Rattle.psr_beams.specs.Seen.{calm_at}
use Rattle.psr_beams.proofs.SampleText.{found}
use Rattle.psr_beams.proofs.laws.sample_is_found.Goals as goal

pub returns : goal.returns
returns g c = λ inputs. found (calm_at g.I.Inputs.is_calm inputs)
