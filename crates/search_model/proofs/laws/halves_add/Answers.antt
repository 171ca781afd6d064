use Rattle.search_model.proofs.Subbands.{halves_sum}
use Rattle.search_model.proofs.laws.halves_add.Goals as goal

pub returns : goal.returns
returns c = halves_sum
