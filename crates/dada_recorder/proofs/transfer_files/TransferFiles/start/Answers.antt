use Rattle.dada_recorder.specs.TransferFiles.{recording_in}
use Rattle.dada_recorder.proofs.Cutting.{no_data_files}
use Rattle.dada_recorder.proofs.Limits.{has_first_numbers, time_accepted}
use Rattle.dada_recorder.proofs.transfer_files.TransferFiles.start.Goals as goal

pub start_file-requires-clause-room : goal.start_file-requires-clause-room
start_file-requires-clause-room g c =
    c.each_header_has_room.ensures (recording_in c.args.self.now) c.args.max_bytes 0 c.requires.accepted.none_refused
    (has_first_numbers (recording_in c.args.self.now) c.args.max_bytes c.requires.accepted)

pub start_file-requires-clause-time : goal.start_file-requires-clause-time
start_file-requires-clause-time g c =
    time_accepted (recording_in c.args.self.now) c.args.max_bytes c.requires.accepted.none_refused

pub returns-clause-made : goal.returns-clause-made
returns-clause-made g c = λ before.
    rw (no_data_files (recording_in c.args.self.now) c.requires.accepted.some) (c.start_file.ensures.made before)
