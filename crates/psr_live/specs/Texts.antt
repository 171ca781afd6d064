-- How a search that stopped is answered: by the exit status, and by a line. Both are those of the search of a part, but
-- that too many pulses stop none.
-- Source: this project's choice.
use Rattle.std.specs.Prelude.{ℕ, List, [], ◌∷◌, Option, Some, None}
use Rattle.run_outcome.specs.declared.stop.Stop.TheVariants as run
use Rattle.run_outcome.specs.Texts.{note_of}
use Rattle.drive_stream.specs.declared.stop.StreamStop.{StreamStop}
use Rattle.drive_stream.specs.declared.stop.StreamStop.TheVariants as streamed
use Rattle.psr_part.specs.declared.stop.CheckpointRefusal.TheVariants as check
use Rattle.psr_part.specs.declared.stop.PartStop.{PartStop}
use Rattle.psr_part.specs.declared.stop.PartStop.TheVariants.{Run, Refused}
use Rattle.psr_part.specs.Texts.{refusal_text}
use Rattle.psr_live.specs.declared.task.LiveRefusal.{LiveRefusal}
use Rattle.psr_live.specs.declared.task.LiveRefusal.TheVariants.{Plan, Beyond}

-- the stop of a stream
abbrev pub part_stop : StreamStop LiveRefusal → PartStop
part_stop (streamed.Run stop) = Run stop
part_stop (streamed.Refused (Plan cause)) = Run (run.Plan cause)
part_stop (streamed.Refused (Beyond place spectra)) = Refused (check.Beyond place spectra)

abbrev pub stop_of_stream : Option (StreamStop LiveRefusal) → Option PartStop
stop_of_stream None = None
stop_of_stream (Some stop) = Some (part_stop stop)

-- the line that tells the user
abbrev pub live_note : PartStop → List ℕ
live_note (Run stop) = note_of stop
live_note (Refused refusal) = refusal_text refusal

-- there is no other status
abbrev pub live_statuses : List ℕ
live_statuses = 0 ∷ 2 ∷ 3 ∷ 4 ∷ 5 ∷ 6 ∷ 7 ∷ 8 ∷ 10 ∷ 13 ∷ []
