use Rattle.psr_level.proofs.SampleFile.{is_levelled}
use Rattle.psr_level.proofs.laws.sample_is_levelled.Goals as goal

pub returns : goal.returns
returns c = is_levelled
