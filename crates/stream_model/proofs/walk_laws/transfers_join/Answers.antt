use Rattle.stream_model.proofs.Transfers.{joined_to}
use Rattle.stream_model.proofs.walk_laws.transfers_join.Goals as goal

pub returns : goal.returns
returns c = joined_to
