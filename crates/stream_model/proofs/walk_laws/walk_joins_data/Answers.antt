use Rattle.stream_model.proofs.Transfers.{joined_all}
use Rattle.stream_model.proofs.walk_laws.walk_joins_data.Goals as goal

pub returns : goal.returns
returns c = joined_all
