-- A stream that is opened, before its first data byte is read.
-- Source: this project's choice.
use Rattle.std.specs.Prelude.{◌≡◌, ℕ, ◌<◌, ◌≤◌, min, None, [], length}
use Rattle.psr_base.specs.Told.{Told}
use Rattle.dada_model.specs.Fields.{HeaderText}
use Rattle.dada_model.specs.Observation.{Observation}
use Rattle.search_words.specs.Settings.{RunSeen, RunInRange}
use Rattle.disk_feeder.specs.declared.feeder.Feeder.{Feeder}
use Rattle.disk_feeder.specs.Feeder.{HasPlan, HasOpenFile, FeederFaultless, FeederRead, has_end}
use Rattle.disk_feeder.specs.Handing.{FeederHands}
use Rattle.run_outcome.specs.declared.stop.Stop.TheVariants.{Memory}
use Rattle.search_opening.specs.Early.{LeavesEarly}
use Rattle.search_opening.specs.Settings.{OfRunFirsts}
use Rattle.drive_stream.specs.declared.stop.StreamStop.{StreamStop}
use Rattle.drive_stream.specs.declared.stop.StreamStop.TheVariants.{Run, Refused}
use Rattle.drive_stream.specs.Outcome.{BeginsWith, ReadsHead}

-- why a program opens no stream of an observation: there was no memory, or it refuses it
abbrev pub StopsOpening : {F : Type 0} → (Observation → HeaderText → F → Type 0) → Observation →
    HeaderText → StreamStop F → Type 0
StopsOpening refuses o header (Run stop) = stop ≡ Memory
StopsOpening refuses o header (Refused refusal) = refuses o header refusal

-- what it has read by then: if the program refuses the observation, the first header and nothing else
abbrev pub LeavesBefore : {F : Type 0} → RunSeen → Type 0 → Told → Told → StreamStop F → Type 0
LeavesBefore s is_calm before after (Run stop) = LeavesEarly s is_calm before after stop
LeavesBefore s is_calm before after (Refused refusal) = ReadsHead s before after

-- the blocks of a feeder have a size that settings allow
pub record HasSize (size most : ℕ) : Type 0 where
  pub some : 0 < size
  pub within : size ≤ most

-- settings of one transfer, which lie in their ranges
pub record IsOfOne (s : RunSeen) : Type 0 where
  pub range : RunInRange s
  pub one : length s.starts ≡ 1

-- A feeder whose first header was read stands before the first data byte, and has read nothing else. In this: what
-- inputs tell.
pub record IsReady {I : Type 0} (told : I → Told) (old new : Feeder I) : Type 0 where
  pub running : has_end new ≡ None
  pub faultless : FeederFaultless new
  pub reading : HasOpenFile new → HasOpenFile old
  pub hands : FeederHands (told new.inputs.now) new []
  pub reads_on : (before now : Told) → FeederRead before now old → FeederRead before now new

-- A feeder reads the files of settings and stands before the first data byte, and a stream of the observation of the
-- first header was opened. Its blocks have the size that the program says of the observation, or the most that the
-- settings allow, if that is less. In this: what inputs tell, and whether a name is open.
pub record IsOpened {I S : Type 0} (told : I → Told) (is_open : I → Type 0)
    (block : Observation → ℕ) (takes : Observation → HeaderText → Type 0)
    (opens : Observation → HeaderText → S → Type 0)
    (s : RunSeen) (f : Feeder I) (o : Observation) (stream : S) : Type 0 where
  pub size : ℕ
  pub fits : HasSize size s.size
  pub cut : size ≡ min (block o) s.size
  pub plan : HasPlan f s.names s.starts size s.max_bytes
  pub running : has_end f ≡ None
  pub faultless : FeederFaultless f
  pub file : HasOpenFile f → is_open f.inputs.now
  pub hands : FeederHands (told f.inputs.now) f []
  pub header : HeaderText
  pub taken : takes o header
  pub opened : opens o header stream
  pub firsts : OfRunFirsts (told f.inputs.now) s (BeginsWith o header)

-- and it has read the first header since, and nothing else
pub record IsOpenedSince {I S : Type 0} (told : I → Told) (is_open : I → Type 0)
    (block : Observation → ℕ) (takes : Observation → HeaderText → Type 0)
    (opens : Observation → HeaderText → S → Type 0)
    (s : RunSeen) (before : Told) (f : Feeder I) (o : Observation) (stream : S) : Type 0 where
  pub opened : IsOpened told is_open block takes opens s f o stream
  pub reads : FeederRead before (told f.inputs.now) f
