use Rattle.warm_restart.proofs.Texts.{say_one}
use Rattle.warm_restart.proofs.laws.texts_say_one.Goals as goal

pub returns : goal.returns
returns c = say_one
