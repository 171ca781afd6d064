use Rattle.search_model.proofs.Splits.{split_steps}
use Rattle.search_model.proofs.laws.splits_step.Goals as goal

pub returns : goal.returns
returns c = split_steps
