-- The other way round: from what is accepted or refused to the status of the search of a part.
-- Source: this project's choice.
use Rattle.std.specs.Prelude.{◌≡◌, ◌≢◌, ℕ, ◌≤◌, ◌<◌, ◌⊎◌, List, length, Some}
use Rattle.psr_base.specs.Count.{Rose}
use Rattle.psr_base.specs.Told.{InputsSeen}
use Rattle.psr_base.specs.Written.{SinkSeen}
use Rattle.search_words.specs.Settings.{SettingsSeen}
use Rattle.stream_model.specs.Walk.{FileStream}
use Rattle.disk_feeder.specs.declared.answers.HeaderCause.{HeaderCause}
use Rattle.disk_feeder.specs.Plan.{AreTold}
use Rattle.run_outcome.specs.declared.ran.Ran.{Ran}
use Rattle.warm_restart.specs.declared.checkpoint.Checkpoint.{Checkpoint}
use Rattle.warm_restart.specs.Checkpoint.{IsCheckpointText, IsNoCheckpointText}
use Rattle.run_outcome.specs.declared.causes.PlanCause.{PlanCause}
use Rattle.run_outcome.specs.declared.stop.Stop.{Stop}
use Rattle.run_outcome.specs.Texts.{status_of}
use Rattle.run_outcome.specs.Lone.{SayAlone}
use Rattle.run_outcome.specs.Runs.{stream_for, RefusesFirstHeader, RefusesSearch, StopsWalk, FindsAlone}
use Rattle.psr_part.specs.Part.{until_in, check_text_of, SaysCheckpoint, spectra_in, text_in_part, part_search, searching}
use Rattle.psr_part.specs.Outcome.{IsSearched, IsCrowded, Outcome}

-- what is seen of a search from outside: its inputs, its output and its notes, and what it answered
pub record PartSeen : Type 0 where
  pub inputs : InputsSeen
  pub out_before : SinkSeen
  pub out_after : SinkSeen
  pub notes_before : SinkSeen
  pub notes_after : SinkSeen
  pub ran : Ran

-- it is an outcome of the search of a part for these words
abbrev pub IsOutcome : List (List ℕ) → Type 0 → PartSeen → Type 0
IsOutcome words is_calm seen = Outcome words seen.inputs is_calm seen.out_before seen.out_after
    seen.notes_before seen.notes_after seen.ran

-- the inputs are calm, or count no fault
abbrev pub IsQuiet : Type 0 → PartSeen → Type 0
IsQuiet is_calm seen = is_calm ⊎ ¬ Rose seen.inputs.faults_before seen.inputs.faults_after

-- P holds of each outcome over inputs that may be calm, where its words say settings, the bytes of all their files are
-- told, and CHECK says a checkpoint that the part can go on from
abbrev pub ForOutcomes : Type 0 →
    (List (List ℕ) → PartSeen → Checkpoint → SettingsSeen → FileStream → Type 0) → Type 0
ForOutcomes is_calm P = (words : List (List ℕ)) (seen : PartSeen) → IsOutcome words is_calm seen →
    (from : Checkpoint) → SaysCheckpoint seen.inputs.told words from →
    (s : SettingsSeen) (files : List (List ℕ)) → SayAlone (part_search words from) words s →
    AreTold seen.inputs.told s.names files → P words seen from s (stream_for s files)

-- Words, checkpoints, headers, searches, data and pulses that are accepted are searched, over inputs that are calm or
-- count no fault, and an output that counts none: 0, or want of memory.
abbrev pub AcceptedIsSearched : Type 0 → Type 0
AcceptedIsSearched is_calm = ForOutcomes is_calm (λ words seen from s w.
    IsSearched words from s w → IsQuiet is_calm seen →
    ¬ Rose seen.out_before.faults seen.out_after.faults →
    (seen.ran.status ≡ 0) ⊎ (seen.ran.status ≡ 5))

-- the status is this one, or there was no memory
abbrev pub Answers : ℕ → ℕ → Type 0
Answers status wanted = (status ≡ wanted) ⊎ (status ≡ 5)

-- Each cause that stands against a search of these files from an accepted checkpoint has its status: the first header
-- that is refused, the search that is, the stop of the walk of the files, a place behind all data, and more pulses than
-- there may be.
pub record EachIsAnswered (words : List (List ℕ)) (from : Checkpoint) (s : SettingsSeen)
    (w : FileStream) (status : ℕ) : Type 0 where
  pub header : (file : ℕ) (cause : HeaderCause) → RefusesFirstHeader w file cause →
      Answers status 3
  pub plan : (cause : PlanCause) → RefusesSearch s.search w cause → Answers status 4
  pub walk : (stop : Stop) → StopsWalk (searching words from) s w stop →
      Answers status (status_of stop)
  pub beyond : FindsAlone (part_search words from) s w (λ total. spectra_in w < from.place) →
      Answers status 13
  pub too_many : IsCrowded words from s w → Answers status 9

-- A text of CHECK that is no checkpoint text, or whose place is not before the spectrum that the part stops before, has
-- its status whatever is in the other files.
pub record RefusedIsAnswered (is_calm : Type 0) (words : List (List ℕ)) (seen : PartSeen) :
    Type 0 where
  pub form : (bytes : List ℕ) → check_text_of seen.inputs.told words ≡ Some bytes →
      IsNoCheckpointText bytes → Answers seen.ran.status 13
  pub place : (bytes : List ℕ) (c : Checkpoint) →
      check_text_of seen.inputs.told words ≡ Some bytes → IsCheckpointText bytes c →
      until_in words ≤ c.place → Answers seen.ran.status 13

-- So it is over inputs that are calm and hold all files, or that count no fault. Of a text of CHECK that is refused no
-- other file need be told.
pub record CausesAreAnswered (is_calm : Type 0) : Type 0 where
  pub files : ForOutcomes is_calm (λ words seen from s w.
      IsQuiet is_calm seen → EachIsAnswered words from s w seen.ran.status)
  pub checkpoint : (words : List (List ℕ)) (seen : PartSeen) → IsOutcome words is_calm seen →
      (from : Checkpoint) (s : SettingsSeen) → SayAlone (part_search words from) words s →
      IsQuiet is_calm seen → RefusedIsAnswered is_calm words seen

-- Who told enough room has no fault: 10 never comes where the output told room for the text, and the files are told.
abbrev pub ToldRoomIsEnough : Type 0 → Type 0
ToldRoomIsEnough is_calm = ForOutcomes is_calm (λ words seen from s w.
    (room : ℕ) → seen.out_before.room ≡ Some room →
    length (text_in_part words from s w) ≤ room → seen.ran.status ≢ 10)
