use Rattle.stream_model.proofs.Transfers.{one_more}
use Rattle.stream_model.proofs.walk_laws.one_transfer_more.Goals as goal

pub returns : goal.returns
returns c = one_more
