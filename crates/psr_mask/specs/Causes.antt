-- What stands against a search whose words are accepted is answered: the outcome read from the cause to the status.
-- Source: this project's choice.
use Rattle.std.specs.Prelude.{◌≡◌, ◌≢◌, ℕ, ◌≤◌, ◌<◌, ◌⊎◌, List, length, Some}
use Rattle.psr_base.specs.Count.{Rose}
use Rattle.search_words.specs.Settings.{SettingsSeen}
use Rattle.stream_model.specs.Walk.{FileStream}
use Rattle.disk_feeder.specs.declared.answers.HeaderCause.{HeaderCause}
use Rattle.run_outcome.specs.declared.causes.PlanCause.{PlanCause}
use Rattle.run_outcome.specs.declared.stop.Stop.{Stop}
use Rattle.run_outcome.specs.Texts.{status_of}
use Rattle.run_outcome.specs.Runs.{Alone, RefusesFirstHeader, RefusesSearch, StopsWalk}
use Rattle.psr_mask.specs.Masking.{AcceptsFirst, RefusesFiles, mask_search, text_without}
use Rattle.psr_mask.specs.Notes.{mask_status}
use Rattle.psr_mask.specs.Outcome.{ForOutcomes, ForOutcomesByFirst, HasMasked}
use Rattle.psr_mask.specs.declared.refusal.MaskRefusal.{MaskRefusal}

-- the status is this one, or there was no memory
abbrev pub Answers : ℕ → ℕ → Type 0
Answers status wanted = (status ≡ wanted) ⊎ (status ≡ 5)

-- Each cause that stands against a search of these files has its status: the first header that is refused; the mask
-- that is no mask of its observation; and where it is one, the plan that is refused, the stop of the walk of the files,
-- and more candidates than there may be.
pub record EachIsAnswered (words : List (List ℕ)) (s : SettingsSeen) (w : FileStream)
    (status : ℕ) : Type 0 where
  pub header : (file : ℕ) (cause : HeaderCause) → RefusesFirstHeader w file cause →
      Answers status 3
  pub mask : (refusal : MaskRefusal) → RefusesFiles words w refusal → Answers status mask_status
  pub plan : AcceptsFirst words w → (cause : PlanCause) → RefusesSearch s.search w cause →
      Answers status 4
  pub walk : AcceptsFirst words w → (stop : Stop) →
      StopsWalk (Alone (mask_search words)) s w stop → Answers status (status_of stop)
  pub too_many : AcceptsFirst words w →
      HasMasked words s w (λ total. s.search.max_candidates < total) → Answers status 9

-- So it is over inputs that are calm and hold all files, or that count no fault. A mask that is refused has its status
-- whatever is told of files after the first one.
pub record CausesAreAnswered (is_calm : Type 0) : Type 0 where
  pub files : ForOutcomes is_calm (λ words seen s w.
      is_calm ⊎ ¬ Rose seen.inputs.faults_before seen.inputs.faults_after →
      EachIsAnswered words s w seen.ran.status)
  pub mask : ForOutcomesByFirst is_calm (λ words seen s w.
      is_calm ⊎ ¬ Rose seen.inputs.faults_before seen.inputs.faults_after →
      (refusal : MaskRefusal) → RefusesFiles words w refusal →
      Answers seen.ran.status mask_status)

-- Who told enough room for the text has no fault of the output, wherever the files are told that are read.
abbrev pub ToldRoomIsEnough : Type 0 → Type 0
ToldRoomIsEnough is_calm = ForOutcomes is_calm (λ words seen s w. (room : ℕ) →
    seen.out_before.room ≡ Some room → length (text_without words s w) ≤ room →
    seen.ran.status ≢ 10)
