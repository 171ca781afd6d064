use Rattle.stream_model.proofs.FileData.{data_more}
use Rattle.stream_model.proofs.walk_laws.data_grow.Goals as goal

pub returns : goal.returns
returns c = data_more
