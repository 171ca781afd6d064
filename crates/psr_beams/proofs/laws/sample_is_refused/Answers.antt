use Rattle.psr_beams.specs.Seen.{calm_at}
use Rattle.psr_beams.proofs.SampleText.{refused}
use Rattle.psr_beams.proofs.laws.sample_is_refused.Goals as goal

pub returns : goal.returns
returns g c = λ inputs. refused (calm_at g.I.Inputs.is_calm inputs)
