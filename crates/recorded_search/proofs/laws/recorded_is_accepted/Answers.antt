use Rattle.recorded_search.proofs.FoundAlike.{is_accepted}
use Rattle.recorded_search.proofs.laws.recorded_is_accepted.Goals as goal

pub returns : goal.returns
returns c = is_accepted c.recorded_is_searched_alike.ensures c.recorded_can_be_searched.ensures
