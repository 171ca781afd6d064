use Rattle.stream_model.proofs.Transfers.{transfer_is}
use Rattle.stream_model.proofs.walk_laws.files_are_in_transfers.Goals as goal

pub returns : goal.returns
returns c = transfer_is
