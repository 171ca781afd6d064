use Rattle.fold_search.proofs.Within.{delays_part}
use Rattle.fold_search.proofs.laws.delays_are_part.Goals as goal

pub returns : goal.returns
returns c = delays_part
