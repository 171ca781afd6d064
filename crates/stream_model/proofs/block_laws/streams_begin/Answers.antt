use Rattle.stream_model.proofs.Blocks.{begin}
use Rattle.stream_model.proofs.block_laws.streams_begin.Goals as goal

pub returns : goal.returns
returns c = begin
