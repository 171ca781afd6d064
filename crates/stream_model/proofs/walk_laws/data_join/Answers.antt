use Rattle.stream_model.proofs.FileData.{data_join}
use Rattle.stream_model.proofs.walk_laws.data_join.Goals as goal

pub returns : goal.returns
returns c = data_join
