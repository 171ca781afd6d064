use Rattle.psr_part.proofs.Causes.{accepted_is_searched}
use Rattle.psr_part.proofs.laws.accepted_is_searched.Goals as goal

pub returns : goal.returns
returns g c inputs =
    accepted_is_searched c.texts_say_one.ensures (g.I.Inputs.is_calm inputs) (c.accepted_goes_on.ensures inputs)
