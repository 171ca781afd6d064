use Rattle.recorded_search.proofs.FoundAlike.{found_alike}
use Rattle.recorded_search.proofs.laws.recorded_is_found_alike.Goals as goal

pub returns : goal.returns
returns g c inputs again =
    found_alike (g.I.Inputs.is_calm inputs) (g.J.Inputs.is_calm again) c.recorded_is_searched_alike.ensures
