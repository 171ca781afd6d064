-- What stands against a search whose words are accepted is answered: the outcome read from the cause to the status.
-- Source: this project's choice.
use Rattle.std.specs.Prelude.{◌≡◌, ◌≢◌, ℕ, ◌≤◌, ◌<◌, ◌⊎◌, length, Some}
use Rattle.psr_base.specs.Count.{Rose}
use Rattle.psr_base.specs.Made.{FilesSeen}
use Rattle.psr_base.specs.Written.{SinkSeen}
use Rattle.search_words.specs.Settings.{SettingsSeen}
use Rattle.stream_model.specs.Walk.{FileStream}
use Rattle.disk_feeder.specs.declared.answers.HeaderCause.{HeaderCause}
use Rattle.dada_recorder.specs.Making.{Outset, BeginsAt, HasEnoughFor}
use Rattle.transfer_text.specs.Searched.{searched_text}
use Rattle.run_outcome.specs.declared.causes.PlanCause.{PlanCause}
use Rattle.run_outcome.specs.declared.causes.RecordingCause.{RecordingCause}
use Rattle.run_outcome.specs.declared.stop.Stop.{Stop}
use Rattle.run_outcome.specs.Texts.{status_of}
use Rattle.run_outcome.specs.Runs.{Searching, observed_transfers, RefusesFirstHeader, RefusesSearch, RefusesToRecord, StopsWalk, HasCandidates}
use Rattle.run_outcome.specs.Outcomes.{files_of_data}
use Rattle.psr_search.specs.Outcome.{ForOutcomes}

-- the status is this one, or there was no memory
abbrev pub Answers : ℕ → ℕ → Type 0
Answers status wanted = (status ≡ wanted) ⊎ (status ≡ 5)

-- Each cause that stands against a search of these files has its status: the first header that is refused, the search
-- or the recording that is, the stop of the walk of the files, and more candidates than there may be.
pub record EachIsAnswered (s : SettingsSeen) (w : FileStream) (status : ℕ) : Type 0 where
  pub header : (file : ℕ) (cause : HeaderCause) → RefusesFirstHeader w file cause →
      Answers status 3
  pub plan : (cause : PlanCause) → RefusesSearch s.search w cause → Answers status 4
  pub recording : (cause : RecordingCause) → RefusesToRecord Searching s w cause →
      Answers status 4
  pub walk : (stop : Stop) → StopsWalk Searching s w stop → Answers status (status_of stop)
  pub too_many : HasCandidates s w (λ total. s.search.max_candidates < total) → Answers status 9

-- So it is over inputs that are calm and hold all files, or that count no fault.
abbrev pub CausesAreAnswered : Type 0 → Type 0
CausesAreAnswered is_calm = ForOutcomes is_calm (λ seen s w.
    is_calm ⊎ ¬ Rose seen.inputs.faults_before seen.inputs.faults_after →
    EachIsAnswered s w seen.ran.status)

-- Who told enough room has no fault: 10 never comes where the output told room for the text, nor 11 where the files
-- told enough for those of all data.
pub record HasNoFault (s : SettingsSeen) (w : FileStream) (files_before : FilesSeen)
    (out_before : SinkSeen) (status : ℕ) : Type 0 where
  pub output : (room : ℕ) → out_before.room ≡ Some room →
      length (searched_text s.search (observed_transfers w)) ≤ room → status ≢ 10
  pub recording : (outset : Outset) → BeginsAt outset files_before →
      HasEnoughFor outset (files_of_data w s.file_size) → status ≢ 11

-- So it is wherever the files are told that are read.
abbrev pub ToldRoomIsEnough : Type 0 → Type 0
ToldRoomIsEnough is_calm = ForOutcomes is_calm (λ seen s w.
    HasNoFault s w seen.files_before seen.out_before seen.ran.status)
