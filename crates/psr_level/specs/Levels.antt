-- What psr_level makes of an observation, and of the data bytes that it takes. `s` are its settings.
-- Source: this project's choice.
use Rattle.std.specs.Prelude.{◌≡◌, ◌≢◌, ℕ, false, List, [], ◌++◌, take}
use Rattle.psr_base.specs.Written.{SinkSeen, WroteAll, WroteFront}
use Rattle.dada_model.specs.Fields.{HeaderText, header_bytes}
use Rattle.dada_model.specs.Observation.{Observation}
use Rattle.channel_mask.specs.declared.fault.MaskFault.TheVariants.{Memory}
use Rattle.channel_mask.specs.Masks.{IsMaskOf, mask_of, ExplainsMask}
use Rattle.band_level.specs.Ranges.{FormatInRange}
use Rattle.band_level.specs.Levelled.{Task, levelled}
use Rattle.band_level.specs.Levelling.{Levels, pending}
use Rattle.level_words.specs.Settings.{LevelSeen}
use Rattle.level_plan.specs.Plans.{task_of, FitsTime}
use Rattle.level_plan.specs.Headers.{level_header, HasNoRoom, HasRoom}
use Rattle.drive_stream.specs.Endings.{Ending, All, Early, Failed, Refused, Midway, AtEnd, AtStop}
use Rattle.psr_level.specs.declared.refusal.LevelRefusal.{LevelRefusal}
use Rattle.psr_level.specs.declared.refusal.LevelRefusal.TheVariants.{LongTime, BadMask, NoRoom}
use Rattle.psr_level.specs.declared.task.LevelStream.{LevelStream}
use Rattle.psr_level.specs.Draining.{whole_stretches}

-- ---- an observation

-- a search takes spectra as long, the mask is one of the observation, and the header has room for what levelling
-- changes
pub record CanLevel (s : LevelSeen) (o : Observation) (header : HeaderText) : Type 0 where
  pub time : FitsTime s.options o
  pub mask : IsMaskOf o s.mask (mask_of o s.mask)
  pub room : HasRoom s.options o header

-- why it isn't levelled
abbrev pub Refuses : LevelSeen → Observation → HeaderText → LevelRefusal → Type 0
Refuses s o header LongTime = ¬ FitsTime s.options o
Refuses s o header (BadMask fault) = ExplainsMask o s.mask fault × (fault ≢ Memory)
Refuses s o header (NoRoom need size) = HasNoRoom s.options o header need size

-- how many bytes a block of the data of an observation has
abbrev pub level_block : Observation → ℕ
level_block o = 65536

-- what is levelled, and the header of the levelled file
abbrev pub task_in : LevelSeen → Observation → Task
task_in s o = task_of s.options s.mask o

abbrev pub header_in : LevelSeen → Observation → HeaderText → List ℕ
header_in s o header = header_bytes (level_header s.options o header)

-- ---- data bytes

-- the levelled file of these data bytes, and the front of it that is written where they stop early
abbrev pub file_of : LevelSeen → Observation → HeaderText → List ℕ → List ℕ
file_of s o header bytes = header_in s o header ++ levelled (task_in s o) bytes

abbrev pub front_of : LevelSeen → Observation → HeaderText → List ℕ → List ℕ
front_of s o header bytes = header_in s o header ++ whole_stretches (task_in s o) bytes

-- a call of the output failed before all data had come: so many of these bytes had been taken, and what is written of
-- those was written in front
pub record Breaks (s : LevelSeen) (o : Observation) (header : HeaderText) (bytes : List ℕ)
    (before after : SinkSeen) : Type 0 where
  pub count : ℕ
  pub front : WroteFront (front_of s o header (take count bytes)) before after

-- what is left of data bytes, by their ending
abbrev pub Leaves : LevelSeen → Observation → HeaderText → List ℕ → Ending LevelRefusal →
    SinkSeen → SinkSeen → Type 0
Leaves s o header bytes All before after = WroteAll (file_of s o header bytes) before after
Leaves s o header bytes Early before after = WroteAll (front_of s o header bytes) before after
Leaves s o header bytes (Failed Midway) before after = Breaks s o header bytes before after
Leaves s o header bytes (Failed AtEnd) before after =
    WroteFront (file_of s o header bytes) before after
Leaves s o header bytes (Failed AtStop) before after = ⊥
Leaves s o header bytes (Refused refusal) before after = ⊥

-- ---- a stream

-- a leveller of the observation was opened, and has taken nothing; this is the header of the levelled file
pub record Opens (s : LevelSeen) (o : Observation) (header : HeaderText) (stream : LevelStream) :
    Type 0 where
  pub header_is : stream.header ≡ level_header s.options o header
  pub task : stream.leveller.task ≡ task_in s o
  pub format : FormatInRange (task_in s o).format
  pub goes_on : stream.leveller.has_ended ≡ false
  pub fresh : Levels stream.leveller [] []

-- it took these bytes: the header was written, and what was levelled of them, and nothing is to be levelled
pub record Streams (s : LevelSeen) (o : Observation) (header : HeaderText) (bytes : List ℕ)
    (stream : LevelStream) (start now : SinkSeen) : Type 0 where
  pub task : stream.leveller.task ≡ task_in s o
  pub format : FormatInRange (task_in s o).format
  pub goes_on : stream.leveller.has_ended ≡ false
  pub drained : pending stream.leveller ≡ 0
  pub text : List ℕ
  pub levels : Levels stream.leveller bytes text
  pub wrote : WroteAll (header_in s o header ++ text) start now
