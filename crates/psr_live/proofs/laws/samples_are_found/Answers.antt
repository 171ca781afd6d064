use Rattle.psr_live.proofs.SampleTexts.{found}
use Rattle.psr_live.proofs.laws.samples_are_found.Goals as goal

pub returns : goal.returns
returns g c = λ inputs.
    found c.bytes_are_joined.ensures c.words_say_once.ensures c.texts_say_one.ensures c.lines_are_read_back.ensures
    (g.I.Inputs.is_calm inputs)
