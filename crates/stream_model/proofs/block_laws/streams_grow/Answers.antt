use Rattle.stream_model.proofs.Blocks.{grow}
use Rattle.stream_model.proofs.block_laws.streams_grow.Goals as goal

pub returns : goal.returns
returns c = grow
