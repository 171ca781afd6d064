use Rattle.search_opening.proofs.Wording.{recordings_said}
use Rattle.search_opening.proofs.laws.recordings_are_said.Goals as goal

pub returns : goal.returns
returns c = recordings_said c.words_say_once.ensures
