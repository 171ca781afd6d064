use Rattle.search_opening.proofs.Told.{says_before_reading}
use Rattle.search_opening.proofs.laws.early_stops_stand.Goals as goal

pub returns : goal.returns
returns c = says_before_reading
