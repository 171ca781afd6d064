use Rattle.psr_search.proofs.SampleText.{found}
use Rattle.psr_search.proofs.laws.sample_is_found.Goals as goal

pub returns : goal.returns
returns g c = λ inputs. found (g.I.Inputs.is_calm inputs)
