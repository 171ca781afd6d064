use Rattle.psr_level.proofs.Stretches.{whole_when_waiting}
use Rattle.psr_level.proofs.drain.stretches_are_whole.Goals as goal

pub returns : goal.returns
returns c = whole_when_waiting
