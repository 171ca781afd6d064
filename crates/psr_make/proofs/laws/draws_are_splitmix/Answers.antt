use Rattle.psr_make.proofs.SplitMix as law
use Rattle.psr_make.proofs.laws.draws_are_splitmix.Goals as goal

pub returns : goal.returns
returns c = law.draws_are_splitmix
