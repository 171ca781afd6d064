use Rattle.psr_part.proofs.SampleText.{found}
use Rattle.psr_part.proofs.laws.sample_is_found.Goals as goal

pub returns : goal.returns
returns g c = λ inputs.
    found c.texts_say_one.ensures c.lines_are_read_back.ensures (g.I.Inputs.is_calm inputs)
