use Rattle.stream_model.proofs.Ends.{counted}
use Rattle.stream_model.proofs.block_laws.ends_are_counted.Goals as goal

pub returns : goal.returns
returns c = counted
