use Rattle.stream_model.proofs.Blocks.{bytes_joined}
use Rattle.stream_model.proofs.block_laws.bytes_are_joined.Goals as goal

pub returns : goal.returns
returns c = bytes_joined
