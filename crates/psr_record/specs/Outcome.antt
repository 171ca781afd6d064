-- What the exit status of a recording says.
-- Source: this project's choice.
use Rattle.std.specs.Prelude.{◌≡◌, ◌≢◌, ◌⊎◌, ℕ, List, [], ◌∷◌, Option, Some, Contains}
use Rattle.psr_base.specs.Count.{Rose}
use Rattle.psr_base.specs.Told.{Told, InputsSeen}
use Rattle.psr_base.specs.Made.{FilesSeen}
use Rattle.psr_base.specs.Written.{SinkSeen}
use Rattle.ring_ends.specs.declared.finished.Finished.{Finished}
use Rattle.search_words.specs.Settings.{RunSeen, SayRecord}
use Rattle.stream_model.specs.Walk as walk
use Rattle.stream_model.specs.Walk.{FileStream, walk_stop}
use Rattle.disk_feeder.specs.Plan.{AreTold}
use Rattle.dada_recorder.specs.declared.answers.RecordEnd.{RecordEnd}
use Rattle.dada_recorder.specs.declared.answers.RecordEnd.TheVariants.{FileFault}
use Rattle.run_outcome.specs.declared.ran.Ran.{Ran}
use Rattle.run_outcome.specs.Runs.{RecordingAlone, stream_for, ForFiles, CanBegin}
use Rattle.run_outcome.specs.Outcomes.{JudgesWords, ReadsInputs, StopsAtFiles, SealsStream, AllCleared, RecordsFiles, TellsNotes, MadeAll, MadeFront, files_of_data}

-- P holds of the settings that the words of a recording say and of the files that they name, where all of them are
-- told
abbrev pub ForRecord : List (List ℕ) → Told → (RunSeen → FileStream → Type 0) → Type 0
ForRecord = ForFiles RecordingAlone

-- all data can be read and recorded
pub record IsRecordable (s : RunSeen) (w : FileStream) : Type 0 where
  pub begins : CanBegin RecordingAlone s w
  pub whole : walk_stop w ≡ walk.Whole

-- What the new files took: at 0 the recorded files of all data, and at 11, where a call failed, a front of them.
pub record RecordsData
    (words : List (List ℕ)) (told : Told) (before after : FilesSeen) (status : ℕ) : Type 0 where
  pub all : status ≡ 0 → ForRecord words told (λ s w.
      IsRecordable s w × MadeAll (files_of_data w s.file_size) before after)
  pub front : status ≡ 11 → ForRecord words told (λ s w.
      IsRecordable s w × MadeFront (files_of_data w s.file_size) before after)

-- the recorder cleared all that was sealed, unless its end is a fault
abbrev pub ClearsBlocks : Option Finished → Option RecordEnd → Type 0
ClearsBlocks blocks recorded = recorded ≢ Some FileFault → (b : Finished) → blocks ≡ Some b →
    AllCleared b 0 1

-- The outcome of a recording for these words over these inputs, which may be calm: how it ended, by its status, and
-- what the outside objects and the data ring took. Where more than one cause is there, the first of these counts:
-- words, first headers, recordings; the stop of the walk of the files; the files that are made.
pub record Outcome (words : List (List ℕ)) (inputs : InputsSeen) (is_calm : Type 0)
    (files_before files_after : FilesSeen) (notes_before notes_after : SinkSeen) (ran : Ran) :
    Type 0 where
  -- there is no other status; 5 is want of memory, before the session alone
  pub known : Contains (0 ∷ 2 ∷ 3 ∷ 4 ∷ 5 ∷ 6 ∷ 7 ∷ 8 ∷ 11 ∷ []) ran.status
  -- the headline: the files have grown by exactly those of all data
  pub made : RecordsData words inputs.told files_before files_after ran.status
  pub judged : JudgesWords RecordingAlone words ran.status
  pub read : ReadsInputs RecordingAlone words inputs is_calm ran.status
  pub stopped : StopsAtFiles RecordingAlone words inputs.told ran.blocks ran.status
  pub sealed : SealsStream RecordingAlone words inputs.told ran.blocks ran.status
  pub cleared : ClearsBlocks ran.blocks ran.recorded
  pub recorded : RecordsFiles RecordingAlone words inputs.told ran.blocks ran.recorded files_before
      files_after ran.status
  pub noted : TellsNotes RecordingAlone words inputs.told notes_before notes_after ran.status

-- Words, headers, recordings and data that are accepted are recorded, over inputs that are calm or count no fault, and
-- files that count none: 0, or want of memory.
abbrev pub AcceptedIsRecorded : Type 0 → Type 0
AcceptedIsRecorded is_calm = (words : List (List ℕ)) (inputs : InputsSeen)
    (files_before files_after : FilesSeen) (notes_before notes_after : SinkSeen) (ran : Ran) →
    Outcome words inputs is_calm files_before files_after notes_before notes_after ran →
    (s : RunSeen) (files : List (List ℕ)) → SayRecord words s →
    AreTold inputs.told s.names files → IsRecordable s (stream_for s files) →
    is_calm ⊎ ¬ Rose inputs.faults_before inputs.faults_after →
    ¬ Rose files_before.faults files_after.faults → (ran.status ≡ 0) ⊎ (ran.status ≡ 5)
