use Rattle.stream_model.proofs.Blocks.{short}
use Rattle.stream_model.proofs.block_laws.streams_are_short.Goals as goal

pub returns : goal.returns
returns c = short
