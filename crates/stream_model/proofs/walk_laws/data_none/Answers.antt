use Rattle.stream_model.proofs.FileData.{data_none}
use Rattle.stream_model.proofs.walk_laws.data_none.Goals as goal

pub returns : goal.returns
returns c = data_none
