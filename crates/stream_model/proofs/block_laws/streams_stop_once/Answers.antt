use Rattle.stream_model.proofs.Ends.{stops}
use Rattle.stream_model.proofs.block_laws.streams_stop_once.Goals as goal

pub returns : goal.returns
returns c = stops
