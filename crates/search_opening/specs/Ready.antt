-- What is known of a run once all is opened.
-- Source: this project's choice.
use Rattle.std.specs.Prelude.{◌≡◌, ℕ, ◌^◌, ◌<◌, true, List, length, Option, ◌≤◌}
use Rattle.dada_model.specs.Fields.{HeaderText}
use Rattle.dada_model.specs.Observation.{Observation}
use Rattle.search_model.specs.Search.{SettingsInRange}
use Rattle.psr_base.specs.Told.{Told}
use Rattle.disk_feeder.specs.declared.feeder.Feeder.{Feeder}
use Rattle.disk_feeder.specs.Feeder.{HasPlan, FeederFaultless, headers_of}
use Rattle.run_outcome.specs.Runs.{Task, RecordingAlone, SettingsFor, IfSearch, MayBegin}
use Rattle.search_opening.specs.First.{AreFirsts, AreHeadersOf, AreObserved}
use Rattle.search_opening.specs.Offsets.{AreOffsetsOf}
use Rattle.search_opening.specs.Space.{FeedsRings}
use Rattle.search_opening.specs.declared.space.StageSpace.{StageSpace}
use Rattle.search_opening.specs.Settings.{OfRunFirsts}
use Rattle.search_opening.specs.Judged.{AreFit}
use Rattle.search_opening.specs.Spaces.{shape_for, plan_for, HasRecorderSpace, IsStageSpace}
use Rattle.search_opening.specs.declared.spaces.Spaces.{Spaces}

-- Nothing stands against a run, and the memory of its session is taken. Its feeder stands before the
-- first data byte. The data of its transfers begin at these offsets.
pub record IsReady {I F : Type 0} (told : I → Told) (is_open : I → Type 0) (task : Task)
    (s : SettingsFor task) (offsets : List ℕ) (feeder : Feeder I)
    (observations : List (Option Observation)) (stage : StageSpace I F) : Type 0 where
  pub plan : HasPlan feeder s.names s.starts s.size s.max_bytes
  pub faultless : FeederFaultless feeder
  pub some : 0 < length s.starts
  pub few : length s.starts ≤ 8
  pub most : s.max_bytes ≤ 2 ^ 48
  pub range : IfSearch task s.search SettingsInRange
  pub alone : task ≡ RecordingAlone → s.recording ≡ true
  pub header : HeaderText
  pub stage_is : IsStageSpace task s observations header stage
  pub feeds : FeedsRings told is_open (shape_for s (length stage_is.banks.items)) header feeder
  pub observed : AreObserved (headers_of feeder) observations
  pub fit : AreFit task s (headers_of feeder) observations
  pub offsets_are : AreOffsetsOf observations offsets
  pub begins : MayBegin task s (told feeder.inputs.now)
  pub firsts : OfRunFirsts (told feeder.inputs.now) s (λ w. AreFirsts w observations)
  pub headers : OfRunFirsts (told feeder.inputs.now) s (λ w. AreHeadersOf w (headers_of feeder))

-- All is opened: a run is ready, and the space of its recorder is there, where it records.
pub record IsOpened {I F : Type 0} (told : I → Told) (is_open : I → Type 0) (task : Task)
    (s : SettingsFor task) (feeder : Feeder I) (observations : List (Option Observation))
    (spaces : Spaces I F) : Type 0 where
  pub offsets : List ℕ
  pub ready : IsReady told is_open task s offsets feeder observations spaces.stage
  pub recorder_is : HasRecorderSpace s.recording (plan_for s offsets) s.size spaces.recorder
