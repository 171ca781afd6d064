use Rattle.search_opening.proofs.Told.{cuts_stay}
use Rattle.search_opening.proofs.laws.cuts_stay_told.Goals as goal

pub returns : goal.returns
returns c = cuts_stay
