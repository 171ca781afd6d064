use Rattle.stream_model.proofs.ByTransfer.{have_transfers}
use Rattle.stream_model.proofs.block_laws.streams_have_transfers.Goals as goal

pub returns : goal.returns
returns c = have_transfers
