use Rattle.psr_level.proofs.Stretches.{levels_fronts}
use Rattle.psr_level.proofs.drain.levels_are_fronts.Goals as goal

pub returns : goal.returns
returns c = levels_fronts
