use Rattle.run_outcome.proofs.Endings.{at_words}
use Rattle.run_outcome.proofs.ends.end_at_words.Goals as goal

pub returns : goal.returns
returns g c inputs = at_words (g.I.Inputs.is_calm inputs)
