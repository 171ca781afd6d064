use Rattle.psr_mask.proofs.Accepted.{accepted_is_searched}
use Rattle.psr_mask.proofs.laws.accepted_is_searched.Goals as goal

pub returns : goal.returns
returns g c inputs = accepted_is_searched (g.I.Inputs.is_calm inputs) c.masks_are_not_refused.ensures
    (c.accepted_goes_on.ensures inputs)
