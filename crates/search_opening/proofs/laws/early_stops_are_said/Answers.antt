use Rattle.search_opening.proofs.Wording.{stops_said, stops_leave}
use Rattle.search_opening.proofs.laws.early_stops_are_said.Goals as goal

pub returns-clause-said : goal.returns-clause-said
returns-clause-said g c = stops_said c.words_say_once.ensures

pub returns-clause-leave : goal.returns-clause-leave
returns-clause-leave g c inputs = stops_leave c.words_say_once.ensures (g.I.Inputs.is_calm inputs)
