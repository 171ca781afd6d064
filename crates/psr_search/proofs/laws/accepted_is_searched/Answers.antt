use Rattle.psr_search.proofs.Accepted.{accepted_is_searched}
use Rattle.psr_search.proofs.laws.accepted_is_searched.Goals as goal

pub returns : goal.returns
returns g c inputs = accepted_is_searched (g.I.Inputs.is_calm inputs) (c.accepted_goes_on.ensures inputs)
