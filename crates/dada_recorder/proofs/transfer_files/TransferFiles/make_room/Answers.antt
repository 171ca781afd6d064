use Rattle.std.proofs.Common.{◌+◌, ◌++◌, append_assoc, arith}
use Rattle.dada_recorder.specs.TransferFiles.{recording_in, first_files}
use Rattle.dada_recorder.proofs.Cutting.{next_begun}
use Rattle.dada_recorder.proofs.Limits.{has_numbers, time_accepted}
use Rattle.dada_recorder.proofs.Stepping.{is_full}
use Rattle.dada_recorder.proofs.transfer_files.TransferFiles.make_room.Goals as goal

pub start_file-requires-clause-numbers : goal.start_file-requires-clause-numbers
start_file-requires-clause-numbers g c =
    let place = c.args.self.now.place in
    let z = c.args.self.now.file_size in
    let full = is_full place z c.requires.placed c.if-self.false in
    let few = c.requires.limit.few in
    has_numbers (recording_in c.args.self.now) c.requires.limit.limit (place.number + 1) c.requires.limit.can
    (omega (arith, full, few))

pub start_file-requires-clause-room : goal.start_file-requires-clause-room
start_file-requires-clause-room g c =
    c.each_header_has_room.ensures (recording_in c.args.self.now) c.requires.limit.limit
    (c.args.self.now.place.number + 1) c.requires.limit.can.none_refused (start_file-requires-clause-numbers g c)

pub start_file-requires-clause-time : goal.start_file-requires-clause-time
start_file-requires-clause-time g c =
    time_accepted (recording_in c.args.self.now) c.requires.limit.limit c.requires.limit.can.none_refused

pub returns-else-self-clause-made : goal.returns-else-self-clause-made
returns-else-self-clause-made g c = λ before xs is.
    let r = recording_in c.args.self.now in
    let place = c.args.self.now.place in
    let z = c.args.self.now.file_size in
    let n = place.number in
    let full = is_full place z c.requires.placed c.if-self.false in
    rw (c.if-self.false, next_begun r xs (n + 1) (omega (arith, is, full)), ← append_assoc)
    (c.start_file.ensures.made (before ++ first_files r xs (n + 1)))
