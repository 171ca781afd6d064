use Rattle.search_model.proofs.Paths.{halved_single, halved_join, halved_same}
use Rattle.search_model.proofs.laws.halves_join.Goals as goal

pub returns : goal.returns
returns c = record { single = halved_single; join = halved_join; same = halved_same }
