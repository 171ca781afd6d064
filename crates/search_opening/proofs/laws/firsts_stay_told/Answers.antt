use Rattle.search_opening.proofs.Told.{firsts_stay}
use Rattle.search_opening.proofs.laws.firsts_stay_told.Goals as goal

pub returns : goal.returns
returns c = firsts_stay
