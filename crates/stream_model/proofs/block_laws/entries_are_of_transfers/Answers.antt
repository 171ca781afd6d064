use Rattle.stream_model.proofs.ByTransfer.{of_transfers}
use Rattle.stream_model.proofs.block_laws.entries_are_of_transfers.Goals as goal

pub returns : goal.returns
returns c = of_transfers
