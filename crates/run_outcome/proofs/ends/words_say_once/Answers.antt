use Rattle.run_outcome.proofs.Before.{say_once}
use Rattle.run_outcome.proofs.ends.words_say_once.Goals as goal

pub returns : goal.returns
returns c = say_once
