-- What first headers say was judged: nothing stands against a run, or one of them is refused.
-- Source: this project's choice.
use Rattle.std.specs.Prelude.{◌≡◌, ◌≢◌, true, List, length, Option, ⊤}
use Rattle.dada_model.specs.Fields.{HeaderText}
use Rattle.dada_model.specs.Observation.{Observation}
use Rattle.stream_model.specs.Walk.{FileStream}
use Rattle.run_outcome.specs.declared.causes.RecordingCause.{RecordingCause}
use Rattle.run_outcome.specs.declared.stop.Stop.{Stop}
use Rattle.run_outcome.specs.declared.stop.Stop.TheVariants.{Memory, ReadFault, Plan, Recording}
use Rattle.run_outcome.specs.Runs.{Task, SettingsFor, is_search, IfSearch, CanSearchFirst, CanRecordFirst}
use Rattle.run_outcome.specs.Ends.{ComesBefore}
use Rattle.search_opening.specs.First.{AreFirsts, AreHeadersOf}
use Rattle.search_opening.specs.Plans.{PlansFit, RefusesObservation}
use Rattle.search_opening.specs.Recordings.{RecordingsFit, AreReadBack, RefusesRecordingOf}

-- Searches and recordings were judged: all transfers can be searched and recorded, as far as that is asked for. Each is
-- said of the headers that were read, for what is opened next, and of a walk's files, for what the exit status says.
pub record AreFit (task : Task) (s : SettingsFor task) (headers : List HeaderText)
    (observations : List (Option Observation)) : Type 0 where
  pub fits : IfSearch task s.search (λ search. PlansFit search observations)
  pub searched : IfSearch task s.search (λ search. (w : FileStream) → AreFirsts w observations →
      CanSearchFirst search w (length w.starts))
  pub can : s.recording ≡ true →
      RecordingsFit s.file_size s.max_bytes headers observations (length observations)
  pub read_back : s.recording ≡ true → AreReadBack headers
  pub recorded : s.recording ≡ true → (w : FileStream) → AreFirsts w observations →
      AreHeadersOf w headers → w.max_bytes ≡ s.max_bytes →
      CanRecordFirst s.file_size w (length w.starts)

-- the recording of some transfer is refused, and all searches fit
pub record RefusesRecorded (task : Task) (s : SettingsFor task) (headers : List HeaderText)
    (observations : List (Option Observation)) (cause : RecordingCause) : Type 0 where
  pub searched : IfSearch task s.search (λ search. PlansFit search observations)
  pub records : s.recording ≡ true
  pub refused : RefusesRecordingOf s.file_size s.max_bytes headers observations cause

-- what a stop says where first headers are judged, of these and their observations
abbrev pub RefusesJudged : (task : Task) → SettingsFor task → List HeaderText →
    List (Option Observation) → Stop → Type 0
RefusesJudged task s headers observations (Plan cause) =
    (is_search task ≡ true)
    × IfSearch task s.search (λ search. RefusesObservation search observations cause)
RefusesJudged task s headers observations (Recording cause) =
    RefusesRecorded task s headers observations cause
RefusesJudged task s headers observations Memory = ⊤
RefusesJudged task s headers observations _ = ⊥

-- or one was refused, with its cause, or there was no memory to judge them
pub record IsRefused (task : Task) (s : SettingsFor task) (headers : List HeaderText)
    (observations : List (Option Observation)) (stop : Stop) : Type 0 where
  pub kind : ComesBefore stop
  pub readable : stop ≢ ReadFault
  pub says : RefusesJudged task s headers observations stop
