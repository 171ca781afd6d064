use Rattle.psr_part.proofs.Causes.{causes_are_answered}
use Rattle.psr_part.proofs.laws.causes_are_answered.Goals as goal

pub returns : goal.returns
returns g c inputs =
    causes_are_answered c.texts_say_one.ensures (g.I.Inputs.is_calm inputs) c.accepted_is_not_refused.ensures
    (c.texts_are_answered.ensures inputs) (c.firsts_are_answered.ensures inputs) (c.stops_are_answered.ensures inputs)
    (c.accepted_goes_on.ensures inputs)
