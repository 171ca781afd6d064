use Rattle.stream_model.proofs.RecordedWalk.{files_give}
use Rattle.stream_model.proofs.recorded_laws.recorded_files_give_the_data.Goals as goal

pub returns : goal.returns
returns c = files_give c.recorded_transfers_give_the_data.ensures
