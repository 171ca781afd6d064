use Rattle.recorded_search.proofs.ObservedAlike.{searched_alike}
use Rattle.recorded_search.proofs.laws.recorded_is_searched_alike.Goals as goal

pub returns : goal.returns
returns c = searched_alike c.recorded_is_observed_alike.ensures
