-- How a recording ends, before the notes.
-- Source: this project's choice.
use Rattle.std.specs.Prelude.{ℕ, List, [], ◌∷◌, Option, Some, None, Contains}
use Rattle.psr_base.specs.Told.{InputsSeen}
use Rattle.psr_base.specs.Made.{FilesSeen}
use Rattle.ring_ends.specs.declared.finished.Finished.{Finished}
use Rattle.dada_recorder.specs.declared.answers.RecordEnd.{RecordEnd}
use Rattle.run_outcome.specs.declared.stop.Stop.{Stop}
use Rattle.run_outcome.specs.Conversions.{stop_of_recorder}
use Rattle.run_outcome.specs.Runs.{RecordingAlone}
use Rattle.run_outcome.specs.Ends.{EndsRun, end_status, IsSaid}
use Rattle.psr_record.specs.Outcome.{RecordsData, ClearsBlocks}

-- the stop of a session: that of its feeder first
abbrev pub stop_of_session : Option Stop → Option RecordEnd → Option Stop
stop_of_session (Some fed) recorded = Some fed
stop_of_session None recorded = stop_of_recorder recorded

-- all that the outcome says but for the notes
pub record Ends (words : List (List ℕ)) (inputs : InputsSeen) (is_calm : Type 0)
    (files_before files_after : FilesSeen) (stop : Option Stop) (blocks : Option Finished)
    (recorded : Option RecordEnd) : Type 0 where
  pub known : Contains (0 ∷ 2 ∷ 3 ∷ 4 ∷ 5 ∷ 6 ∷ 7 ∷ 8 ∷ 11 ∷ []) (end_status stop)
  pub made : RecordsData words inputs.told files_before files_after (end_status stop)
  pub run : EndsRun RecordingAlone words inputs is_calm blocks recorded files_before files_after
      (end_status stop)
  pub cleared : ClearsBlocks blocks recorded
  pub said : IsSaid RecordingAlone words inputs.told stop
