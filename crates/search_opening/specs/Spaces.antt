-- All space of a run: of its session, and of its recorder, where it has one.
-- Source: this project's choice.
use Rattle.std.specs.Prelude.{◌≡◌, ℕ, ◌+◌, true, List, length, Option, Some, None, ◌*◌, ◌≤◌, Bool, false, [], if◌then◌else◌}
use Rattle.arrayvec.specs.ArrayVec.{ArrayVec}
use Rattle.dada_model.specs.Fields.{HeaderText}
use Rattle.dada_model.specs.Observation.{Observation}
use Rattle.search_words.specs.Settings.{SettingsOf}
use Rattle.ring_words.specs.declared.shape.RingShape.{RingShape}
use Rattle.dada_recorder.specs.Recorder as recorder
use Rattle.dada_recorder.specs.declared.space.RecorderSpace.{RecorderSpace}
use Rattle.dada_recorder.specs.Blocks.{RecordPlan, record_plan}
use Rattle.search_engine.specs.Engine.{most_fed}
use Rattle.session_readers.specs.declared.bank.Bank.{Bank}
use Rattle.run_outcome.specs.Runs.{Task, Searching, RecordingAlone, Alone, SettingsFor}
use Rattle.search_opening.specs.Engines.{AreOpenedBanks}
use Rattle.search_opening.specs.Rings.{run_shape}
use Rattle.search_opening.specs.Space.{IsSpaceOf}
use Rattle.search_opening.specs.declared.space.StageSpace.{StageSpace}
use Rattle.search_opening.specs.declared.spaces.Spaces.{Spaces}

-- how many recorders a run has
abbrev pub recorders : {S : Type 0} → SettingsOf S → ℕ
recorders s = if s.recording then 1 else 0

-- the data ring of a run with so many banks: each bank is a reader, and so is the recorder
abbrev pub shape_for : {S : Type 0} → SettingsOf S → ℕ → RingShape
shape_for s banks = run_shape s.buffers s.size (banks + recorders s) s.max_bytes (length s.starts)

-- what a recorder is opened for
abbrev pub plan_for : {S : Type 0} → SettingsOf S → List ℕ → RecordPlan
plan_for s offsets = record_plan offsets s.file_size s.max_bytes

-- a bank for each shard of a search; none where files are recorded alone; a program that searches alone opens its own
abbrev pub AreBanksOf : (task : Task) → SettingsFor task → List (Option Observation) →
    List (Option Bank) → Type 0
AreBanksOf Searching s observations banks = AreOpenedBanks s.search observations banks
AreBanksOf RecordingAlone s observations banks = banks ≡ []
AreBanksOf (Alone lone) s observations banks = ⊥

-- the space of a recorder with this plan, where the run records
abbrev pub HasRecorderSpace : Bool → RecordPlan → ℕ → Option RecorderSpace → Type 0
HasRecorderSpace false plan size space = space ≡ None
HasRecorderSpace true plan size space =
    (r : RecorderSpace) × (space ≡ Some r) × recorder.IsSpaceFor r plan size

-- The space of a session under this first header: for all banks, and for rings that carry all data.
pub record IsStageSpace {I F : Type 0} (task : Task) (s : SettingsFor task)
    (observations : List (Option Observation)) (header : HeaderText) (stage : StageSpace I F) :
    Type 0 where
  pub banks : ArrayVec (Option Bank)
  pub banks_are : AreBanksOf task s observations banks.items
  pub space : IsSpaceOf banks (shape_for s (length banks.items)) header stage
  pub total : (shape_for s (length banks.items)).max_blocks * s.size ≤ most_fed

-- all space of a run: that of its session, and that of its recorder, where the run records
pub record AreSpaces {I F : Type 0} (task : Task) (s : SettingsFor task)
    (observations : List (Option Observation)) (header : HeaderText) (offsets : List ℕ)
    (spaces : Spaces I F) : Type 0 where
  pub stage_is : IsStageSpace task s observations header spaces.stage
  pub recorder_is : HasRecorderSpace s.recording (plan_for s offsets) s.size spaces.recorder
