-- What the session of a run begins with.
-- Source: this project's choice.
use Rattle.std.specs.Prelude.{◌≡◌, ℕ, true, List, Option, false}
use Rattle.dada_model.specs.Observation.{Observation}
use Rattle.psr_base.specs.Told.{Told}
use Rattle.disk_feeder.specs.declared.feeder.Feeder.{Feeder}
use Rattle.dada_recorder.specs.Recorder as recorder
use Rattle.dada_recorder.specs.declared.recorder.Recorder.{Recorder}
use Rattle.run_outcome.specs.Runs.{Task, SettingsFor}
use Rattle.search_opening.specs.declared.space.StageSpace.{StageSpace}
use Rattle.search_opening.specs.Spaces.{plan_for}
use Rattle.search_opening.specs.Ready.{IsReady}

-- A run that records is ready, and a fresh recorder stands over the files, of which none is open.
pub record RecordsReady {I F : Type 0} (told : I → Told) (is_open : I → Type 0)
    (files_open : F → Type 0) (task : Task) (s : SettingsFor task) (offsets : List ℕ)
    (feeder : Feeder I) (observations : List (Option Observation)) (stage : StageSpace I F)
    (r : Recorder F) : Type 0 where
  pub ready : IsReady told is_open task s offsets feeder observations stage
  pub records : s.recording ≡ true
  pub fresh : recorder.IsFreshFor r (plan_for s offsets) s.size
  pub closed : ¬ files_open r.files.now

-- A run that searches alone is ready: it has no recorder, and the files are lent to nobody.
pub record SearchesReady {I F : Type 0} (told : I → Told) (is_open : I → Type 0) (task : Task)
    (s : SettingsFor task) (offsets : List ℕ) (feeder : Feeder I)
    (observations : List (Option Observation)) (stage : StageSpace I F) : Type 0 where
  pub ready : IsReady told is_open task s offsets feeder observations stage
  pub records_not : s.recording ≡ false
