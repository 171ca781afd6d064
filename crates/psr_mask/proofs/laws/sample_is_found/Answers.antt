use Rattle.psr_mask.proofs.SampleText.{found}
use Rattle.psr_mask.proofs.laws.sample_is_found.Goals as goal

pub returns : goal.returns
returns g c inputs = found (g.I.Inputs.is_calm inputs)
