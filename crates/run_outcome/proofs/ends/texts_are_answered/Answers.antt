use Rattle.run_outcome.proofs.Stopped.{texts_answered}
use Rattle.run_outcome.proofs.ends.texts_are_answered.Goals as goal

pub returns : goal.returns
returns g c inputs = texts_answered c.said_is_in_range.ensures (g.I.Inputs.is_calm inputs)
