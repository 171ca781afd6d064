use Rattle.dada_recorder.proofs.RecordingEnds.{recordings_end}
use Rattle.dada_recorder.proofs.recording_laws.recordings_end.Goals as goal

pub returns : goal.returns
returns c = recordings_end c.bytes_are_joined.ensures c.entries_are_of_transfers.ensures
