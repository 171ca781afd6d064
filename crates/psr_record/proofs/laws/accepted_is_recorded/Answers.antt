use Rattle.psr_record.proofs.Accepted.{accepted_is_recorded}
use Rattle.psr_record.proofs.laws.accepted_is_recorded.Goals as goal

pub returns : goal.returns
returns g c inputs = accepted_is_recorded (g.I.Inputs.is_calm inputs) (c.accepted_goes_on.ensures inputs)
