use Rattle.warm_restart.proofs.Texts.{read_back}
use Rattle.warm_restart.proofs.laws.lines_are_read_back.Goals as goal

pub returns : goal.returns
returns c = read_back
