-- The other way round: from what is accepted or refused to the status of a search that prints its parts while the data
-- come, and to its line.
-- Source: this project's choice.
use Rattle.std.specs.Prelude.{◌≡◌, ℕ, ◌+◌, ◌<◌, ◌≤◌, ◌⊎◌, List, length, Some, None}
use Rattle.psr_base.specs.Count.{Rose}
use Rattle.psr_base.specs.Told.{Told, InputsSeen}
use Rattle.psr_base.specs.Written.{SinkSeen, Noted}
use Rattle.search_words.specs.Settings.{SettingsSeen}
use Rattle.stream_model.specs.Walk as walk
use Rattle.stream_model.specs.Walk.{WalkStop, stop_at, walk_stop}
use Rattle.stream_model.specs.WalkLaws.{AreWalked}
use Rattle.disk_feeder.specs.declared.answers.HeaderCause.{HeaderCause}
use Rattle.disk_feeder.specs.Filling.{HoldsAll}
use Rattle.warm_restart.specs.declared.checkpoint.Checkpoint.{Checkpoint}
use Rattle.warm_restart.specs.Checkpoint.{IsCheckpointText, IsNoCheckpointText}
use Rattle.warm_restart.specs.Counts.{greatest_count}
use Rattle.run_outcome.specs.declared.causes.PlanCause.{PlanCause}
use Rattle.run_outcome.specs.declared.stop.Stop.{Stop}
use Rattle.run_outcome.specs.declared.stop.Stop.TheVariants.{Header, Plan, Memory, ReadFault, SinkFault}
use Rattle.run_outcome.specs.Firsts.{first_file}
use Rattle.run_outcome.specs.Runs.{CanSearch, RefusesFirstHeader, RefusesSearch, stop_of_walk}
use Rattle.search_opening.specs.Settings.{OfRun, OfRunFirsts, OfRunTo}
use Rattle.psr_part.specs.declared.stop.CheckpointRefusal.TheVariants.{Form, Place, Beyond}
use Rattle.psr_part.specs.declared.stop.PartStop.{PartStop}
use Rattle.psr_part.specs.declared.stop.PartStop.TheVariants.{Run, Refused}
use Rattle.psr_part.specs.Part.{check_text_of}
use Rattle.psr_part.specs.Texts.{status_of_part}
use Rattle.psr_live.specs.Outcome.{Outcome, SayLive, spectra_in}
use Rattle.psr_live.specs.Texts.{live_note}

-- what is seen of a search from outside: its inputs, its output and its notes, and what it answered
pub record LiveSeen : Type 0 where
  pub inputs : InputsSeen
  pub out_before : SinkSeen
  pub out_after : SinkSeen
  pub notes_before : SinkSeen
  pub notes_after : SinkSeen
  pub status : ℕ

-- it is an outcome of the search for these words
abbrev pub IsOutcome : List (List ℕ) → Type 0 → LiveSeen → Type 0
IsOutcome words is_calm seen = Outcome words seen.inputs is_calm seen.out_before seen.out_after
    seen.notes_before seen.notes_after seen.status

-- this stop is answered: by its status, and by its line to the notes, or the front of that at a fault of theirs
pub record IsAnswered (seen : LiveSeen) (stop : PartStop) : Type 0 where
  pub status : seen.status ≡ status_of_part stop
  pub line : Noted (live_note stop) seen.notes_before seen.notes_after

-- ---- what neither words nor files are the cause of

-- the inputs failed: they counted a fault, and were not calm with all that is asked of them
pub record FailsReading (Calm : Type 0) (seen : LiveSeen) : Type 0 where
  pub answered : IsAnswered seen (Run ReadFault)
  pub rose : Rose seen.inputs.faults_before seen.inputs.faults_after
  pub calm : ¬ Calm

-- the output did
pub record FailsWriting (seen : LiveSeen) : Type 0 where
  pub answered : IsAnswered seen (Run SinkFault)
  pub rose : Rose seen.out_before.faults seen.out_after.faults

-- there was no memory, or the inputs failed
abbrev pub FailsBefore : Type 0 → LiveSeen → Type 0
FailsBefore Calm seen = IsAnswered seen (Run Memory) ⊎ FailsReading Calm seen

-- or the output did
abbrev pub Fails : Type 0 → LiveSeen → Type 0
Fails Calm seen = FailsBefore Calm seen ⊎ FailsWriting seen

-- ---- what is answered

-- CHECK says this checkpoint, from which a search can go on
pub record SaysCheckpoint (told : Told) (words : List (List ℕ)) (from : Checkpoint) : Type 0 where
  pub bytes : List ℕ
  pub named : check_text_of told words ≡ Some bytes
  pub text : IsCheckpointText bytes from
  pub before : from.place < greatest_count

-- From an accepted checkpoint, by these settings, each by the files that say it. A first header and data that are
-- accepted, and reach the place, give 0. Data that end before it, a first header that is refused, a search that is, and
-- the first file that stops the walk, whatever is told of later ones, are answered by their stops. Or there is no
-- memory, or a call failed: before the data of the inputs alone.
pub record EachIsAnswered (Calm : Type 0) (from : Checkpoint) (s : SettingsSeen) (seen : LiveSeen) :
    Type 0 where
  pub accepted : OfRun seen.inputs.told s (λ w. AreWalked w → CanSearch s.search (first_file w 0) →
      walk_stop w ≡ walk.Whole → from.place ≤ spectra_in w →
      (seen.status ≡ 0) ⊎ Fails Calm seen)
  pub beyond : OfRun seen.inputs.told s (λ w. AreWalked w → CanSearch s.search (first_file w 0) →
      walk_stop w ≡ walk.Whole → spectra_in w < from.place →
      IsAnswered seen (Refused (Beyond from.place (spectra_in w))) ⊎ Fails Calm seen)
  pub header : OfRunFirsts seen.inputs.told s (λ w. (file : ℕ) (cause : HeaderCause) →
      RefusesFirstHeader w file cause →
      ((k : ℕ) × (other : HeaderCause) × IsAnswered seen (Run (Header k other)))
      ⊎ FailsBefore Calm seen)
  pub plan : OfRunFirsts seen.inputs.told s (λ w. (cause : PlanCause) →
      RefusesSearch s.search w cause →
      IsAnswered seen (Run (Plan cause)) ⊎ FailsBefore Calm seen)
  pub walk : (file : ℕ) → file < length s.names → OfRunTo (file + 1) seen.inputs.told s (λ w.
      AreWalked w → CanSearch s.search (first_file w 0) →
      ((k : ℕ) → k < file → stop_at w k ≡ None) → (at : WalkStop) (stop : Stop) →
      stop_at w file ≡ Some at → stop_of_walk s.max_bytes at ≡ Some stop →
      IsAnswered seen (Run stop) ⊎ Fails Calm seen)

-- A text of CHECK that is no checkpoint text, or whose place is not before the greatest number of spectra, is answered
-- whatever is in the files.
pub record RefusedIsAnswered (is_calm : Type 0) (words : List (List ℕ)) (seen : LiveSeen) :
    Type 0 where
  pub form : (bytes : List ℕ) → check_text_of seen.inputs.told words ≡ Some bytes →
      IsNoCheckpointText bytes → IsAnswered seen (Refused Form) ⊎ FailsBefore is_calm seen
  pub place : (bytes : List ℕ) (c : Checkpoint) →
      check_text_of seen.inputs.told words ≡ Some bytes → IsCheckpointText bytes c →
      greatest_count ≤ c.place →
      IsAnswered seen (Refused (Place c.place greatest_count)) ⊎ FailsBefore is_calm seen

-- Words that say no settings give 2, or there is no memory. Of words that say some, a text of CHECK that is refused is
-- answered; and from a checkpoint that it says, each cause is. Calm inputs that hold all files don't fail.
pub record CausesAreAnswered (is_calm : Type 0) : Type 0 where
  pub words : (words : List (List ℕ)) (seen : LiveSeen) → IsOutcome words is_calm seen →
      ((s : SettingsSeen) → ¬ SayLive words s) →
      (seen.status ≡ 2) ⊎ IsAnswered seen (Run Memory)
  pub checkpoint : (words : List (List ℕ)) (seen : LiveSeen) → IsOutcome words is_calm seen →
      (s : SettingsSeen) → SayLive words s → RefusedIsAnswered is_calm words seen
  pub files : (words : List (List ℕ)) (seen : LiveSeen) → IsOutcome words is_calm seen →
      (s : SettingsSeen) → SayLive words s → (from : Checkpoint) →
      SaysCheckpoint seen.inputs.told words from →
      EachIsAnswered (is_calm × HoldsAll seen.inputs.told s.names) from s seen
