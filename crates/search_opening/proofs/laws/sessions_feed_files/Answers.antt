use Rattle.search_opening.proofs.Wording.{sessions_feed}
use Rattle.search_opening.proofs.laws.sessions_feed_files.Goals as goal

pub returns : goal.returns
returns g c =
    sessions_feed c.words_say_once.ensures g.I.Inputs.told g.I.Inputs.is_calm g.I.Inputs.faults
