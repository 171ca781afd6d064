use Rattle.psr_search.proofs.RecordedText.{both_are_recorded}
use Rattle.psr_search.proofs.laws.both_samples_are_recorded.Goals as goal

pub returns : goal.returns
returns g c inputs = both_are_recorded (g.I.Inputs.is_calm inputs) (c.accepted_is_searched.ensures inputs)
