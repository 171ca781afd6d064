use Rattle.psr_search.proofs.RecordedText.{both_are_too_many}
use Rattle.psr_search.proofs.laws.both_samples_are_too_many.Goals as goal

pub returns : goal.returns
returns g c inputs = both_are_too_many (g.I.Inputs.is_calm inputs) (c.causes_are_answered.ensures inputs)
