-- How a run ends that streams the data of one transfer through to its output. In the records `block` is how many bytes
-- the program lets a block have of an observation, `takes` whether it takes an observation with a header, `refuses` why
-- it doesn't, and `leaves` what is left of data bytes that were handed to it, by the ending, from the output before to
-- that after.
-- Source: this project's choice.
use Rattle.std.specs.Prelude.{◌≡◌, ◌≢◌, ℕ, ◌+◌, ◌<◌, ◌≤◌, min, ◌⊎◌, false, List, length, Option, Some, IsSome}
use mathlib.Core.List.{IsPrefix}
use Rattle.dada_model.specs.Bounds.{ObservationInRange}
use Rattle.dada_model.specs.Fields.{HeaderText, header_of}
use Rattle.dada_model.specs.Observation.{Observation}
use Rattle.psr_base.specs.Told.{Told, history}
use Rattle.psr_base.specs.Written.{SinkSeen}
use Rattle.ring_blocks.specs.declared.Entry.{Entry}
use Rattle.search_words.specs.Settings.{RunSeen}
use Rattle.stream_model.specs.Blocks.{joined_bytes}
use Rattle.stream_model.specs.Walk.{FileStream, observation_at, transfer_data}
use Rattle.stream_model.specs.WalkLaws.{AreWalked, IsAccepted}
use Rattle.dada_recorder.specs.Blocks.{header_or_none}
use Rattle.disk_feeder.specs.declared.answers.FeedEnd.{FeedEnd}
use Rattle.disk_feeder.specs.declared.answers.FeedEnd.TheVariants.{Whole, TooLong}
use Rattle.disk_feeder.specs.declared.place.Place.{Place}
use Rattle.disk_feeder.specs.Ends.{NamesPlace}
use Rattle.disk_feeder.specs.Feeding.{EndIs, IsCutAt, IsCutPast, StopsWalkAt}
use Rattle.disk_feeder.specs.History.{BreaksIf, IsShut, file_name, read_before}
use Rattle.disk_feeder.specs.Plan.{IsAmong, opened_at}
use Rattle.disk_feeder.specs.Reading.{judged_at}
use Rattle.run_outcome.specs.declared.stop.Stop.TheVariants.{Memory, ReadFault, SinkFault}
use Rattle.run_outcome.specs.Firsts.{BreaksFirstAt, ReadsFirsts, first_file}
use Rattle.run_outcome.specs.Runs.{OfEachFirst, RecordingAlone, first_observation, plan_for}
use Rattle.search_opening.specs.Early.{SaysEarly}
use Rattle.search_opening.specs.First.{ComesFirst}
use Rattle.search_opening.specs.Settings.{JudgesRun, OfRun, OfRunAt, OfRunFirsts, OfRunTo, PassesRunTo}
use Rattle.drive_stream.specs.declared.stop.StreamStop.{StreamStop}
use Rattle.drive_stream.specs.declared.stop.StreamStop.TheVariants.{Run}
use Rattle.drive_stream.specs.declared.stop.StreamStop.TheVariants as stops
use Rattle.drive_stream.specs.Endings.{Ending, Phase, Failed, Refused, AtEnd}
use Rattle.drive_stream.specs.Stops.{IsStopOf}

-- the header of the first file
abbrev pub first_header : FileStream → HeaderText
first_header w = header_or_none (header_of (first_file w 0))

-- P holds of the observation of the first header, and of that header
abbrev pub OfHead : (Observation → HeaderText → Type 0) → FileStream → Type 0
OfHead P w = P (first_observation w 0) (first_header w)

-- the header of a file is accepted: it is this one, and this is its observation
pub record IsHeadOf (o : Observation) (header : HeaderText) (file : List ℕ) : Type 0 where
  pub accepted : IsAccepted file
  pub header_is : header_or_none (header_of file) ≡ header
  pub is : observation_at file ≡ o

-- so it is with the first file of a walk
pub record BeginsWith (o : Observation) (header : HeaderText) (w : FileStream) : Type 0 where
  pub walked : AreWalked w
  pub header_is : first_header w ≡ header
  pub is : first_observation w 0 ≡ o

-- The first header is accepted, and P holds of its observation and of it. Whatever is told, P holds of some observation
-- and some header; where the first file is told, they are its own.
pub record OfFirstHead (s : RunSeen) (told : Told) (P : Observation → HeaderText → Type 0) :
    Type 0 where
  pub observation : Observation
  pub header : HeaderText
  pub range : ObservationInRange observation
  pub holds : P observation header
  pub first : JudgesRun told s (OfEachFirst told s (IsHeadOf observation header))
      (BeginsWith observation header)

-- ---- before the data

-- what a stop says there: the first header is refused, the inputs failed, or there was no memory; or the header is
-- accepted, and the program refuses it
abbrev pub SaysBefore : {F : Type 0} → (Observation → HeaderText → F → Type 0) → RunSeen → Told →
    StreamStop F → Type 0
SaysBefore refuses s told (Run stop) = ComesFirst stop × SaysEarly RecordingAlone s told stop
SaysBefore refuses s told (stops.Refused refusal) =
    OfFirstHead s told (λ o header. refuses o header refusal)

-- nothing was written, and the stop says why by the first file
pub record EndsEarly {F : Type 0} (refuses : Observation → HeaderText → F → Type 0) (s : RunSeen)
    (told : Told) (before after : SinkSeen) (stop : Option (StreamStop F)) : Type 0 where
  pub what : StreamStop F
  pub is : stop ≡ Some what
  pub says : SaysBefore refuses s told what
  pub untouched : after ≡ before

-- ---- from the data on

-- The data ended so at a place, and no file before it stops the walk. Where all data were handed out it is past all
-- files; else its file is there, and the only one that the end names. By the files up to it the blocks that were handed
-- out are those of the walk to its end, and the walk stops there, if it does. They have the size that the program says
-- of the observation of the first file, or the most that the settings allow, if that is less. By the first file the
-- header is accepted, and the program takes it, and leaves of their bytes what it leaves.
pub record EndsFed {F : Type 0} (block : Observation → ℕ)
    (takes : Observation → HeaderText → Type 0)
    (leaves : Observation → HeaderText → List ℕ → Ending F → SinkSeen → SinkSeen → Type 0)
    (s : RunSeen) (told : Told) (before after : SinkSeen) (stop : Option (StreamStop F)) :
    Type 0 where
  pub feed : FeedEnd
  pub ending : Ending F
  pub is : IsStopOf feed ending stop
  pub size : ℕ
  pub some : 0 < size
  pub within : size ≤ s.size
  pub cut : OfRunFirsts told s (λ w. size ≡ min (block (first_observation w 0)) s.size)
  pub blocks : List Entry
  pub at : Place
  pub last : (bytes : ℕ) → feed ≡ Whole bytes → at.file ≡ length s.names
  pub there : ((bytes : ℕ) → feed ≢ Whole bytes) → at.file < length s.names
  pub names : NamesPlace feed at.file
  pub limit : (limit : ℕ) → feed ≡ TooLong limit → limit ≡ s.max_bytes
  pub passed : PassesRunTo at.file told s
  pub walked : OfRunTo (judged_at feed at) told s (λ w. EndIs w size blocks feed)
  pub stops : OfRunTo (judged_at feed at) told s (λ w. StopsWalkAt feed w at.file)
  pub left : OfRunFirsts told s (λ w. AreWalked w × OfHead takes w
      × OfHead (λ o header. leaves o header (joined_bytes blocks) ending before after) w)

-- A call of the output failed: by the first file the header is accepted, and the program takes it, and leaves what it
-- leaves of the bytes that were handed to it, which are a front of the data, or all of them.
pub record EndsBroken {F : Type 0} (takes : Observation → HeaderText → Type 0)
    (leaves : Observation → HeaderText → List ℕ → Ending F → SinkSeen → SinkSeen → Type 0)
    (s : RunSeen) (told : Told) (before after : SinkSeen) (stop : Option (StreamStop F)) :
    Type 0 where
  pub is : stop ≡ Some (Run SinkFault)
  pub phase : Phase
  pub bytes : List ℕ
  pub front : OfRun told s (λ w. IsPrefix bytes (transfer_data w 0))
  pub all : phase ≡ AtEnd → OfRun told s (λ w. bytes ≡ transfer_data w 0)
  pub left : OfRunFirsts told s (λ w. AreWalked w × OfHead takes w
      × OfHead (λ o header. leaves o header bytes (Failed phase) before after) w)

-- how a run of these settings ends
abbrev pub EndsStream : {F : Type 0} → (Observation → ℕ) →
    (Observation → HeaderText → Type 0) → (Observation → HeaderText → F → Type 0) →
    (Observation → HeaderText → List ℕ → Ending F → SinkSeen → SinkSeen → Type 0) → RunSeen →
    Told → SinkSeen → SinkSeen → Option (StreamStop F) → Type 0
EndsStream block takes refuses leaves s told before after stop =
    EndsEarly refuses s told before after stop
    ⊎ (EndsFed block takes leaves s told before after stop
    ⊎ EndsBroken takes leaves s told before after stop)

-- ---- what was read

-- A fault of the inputs came while data were read, at this place, whose file is there. No file before that one stops
-- the walk, each by the files up to it. By those that were opened, nothing that was read does, and the full blocks of
-- this size are those of the data bytes that were read. Where the file at the place is told too, and the first one,
-- it was not opened or its header isn't judged, or it was read up to the place. Whether or not it is told, the full
-- blocks are those of data that begin with the data of the files before it, as far as these are told; and where the
-- first one is told too, these files were read to their ends before anything else. Calm inputs could not open it,
-- since it isn't told: where those before it are, and the first one, nothing else was read.
pub record BreaksData (s : RunSeen) (is_calm : Type 0) (before after : Told) (at : Place) (size : ℕ)
    (blocks : List Entry) : Type 0 where
  pub there : at.file < length s.names
  pub passed : PassesRunTo at.file before s
  pub cut : OfRunTo (opened_at at) before s (λ w. IsCutAt w at size blocks)
  pub stood : OfRunAt (IsAmong (at.file + 1) s.starts (length s.names)) before s (λ w.
      BreaksIf at.is_open s.names w before after at)
  pub past : IsCutPast (plan_for s) before at size blocks
  pub through : (k : ℕ) → k ≤ at.file → OfRunAt (IsAmong k s.starts (length s.names)) before s (λ w.
      IsPrefix (history (read_before s.names w k before)) (history after))
  pub missing : is_calm → ¬ IsSome (before.bytes_under (file_name s.names at.file))
  pub shut : is_calm → at.is_open ≡ false
  pub unopened : is_calm → OfRunAt (IsAmong at.file s.starts (length s.names)) before s (λ w.
      IsShut s.names w before after at.transfer at.file at.since)

-- The data ended so, and what was handed out of them is what was read.
pub record BreaksFed {F : Type 0} (block : Observation → ℕ)
    (takes : Observation → HeaderText → Type 0)
    (leaves : Observation → HeaderText → List ℕ → Ending F → SinkSeen → SinkSeen → Type 0)
    (s : RunSeen) (is_calm : Type 0) (before after : Told) (out_before out_after : SinkSeen) :
    Type 0 where
  pub fed : EndsFed block takes leaves s before out_before out_after (Some (Run ReadFault))
  pub read : BreaksData s is_calm before after fed.at fed.size fed.blocks

-- what a fault of the inputs leaves of them and of the output: it came before the first header was judged, and nothing
-- was written; or while data were read
abbrev pub BreaksStream : {F : Type 0} → (Observation → ℕ) →
    (Observation → HeaderText → Type 0) →
    (Observation → HeaderText → List ℕ → Ending F → SinkSeen → SinkSeen → Type 0) → RunSeen →
    Type 0 → Told → Told → SinkSeen → SinkSeen → Type 0
BreaksStream block takes leaves s is_calm before after out_before out_after =
    (BreaksFirstAt s.names s.starts is_calm before after × (out_after ≡ out_before))
    ⊎ BreaksFed block takes leaves s is_calm before after out_before out_after

-- the first header was read, and no byte past it
abbrev pub ReadsHead : RunSeen → Told → Told → Type 0
ReadsHead s before after = OfRunFirsts before s (λ w. ReadsFirsts s.names w before after)

-- so it is where the program refuses the observation of the first header; or it refuses data at their end
abbrev pub ReadsRefused : {F : Type 0} →
    (Observation → HeaderText → List ℕ → Ending F → SinkSeen → SinkSeen → Type 0) → RunSeen →
    Told → Told → SinkSeen → SinkSeen → Option (StreamStop F) → Type 0
ReadsRefused {F} leaves s before after out_before out_after stop = (refusal : F) →
    stop ≡ Some (stops.Refused refusal) → OfRunFirsts before s (λ w.
    ReadsFirsts s.names w before after ⊎ ((bytes : List ℕ)
    × OfHead (λ o header. leaves o header bytes (Refused refusal) out_before out_after) w))

-- What was read by then: no file was opened, or the first header was read and no byte past it, if there was no memory;
-- and what a fault of the inputs left of them and of the output.
pub record LeavesInputs {F : Type 0} (block : Observation → ℕ)
    (takes : Observation → HeaderText → Type 0)
    (leaves : Observation → HeaderText → List ℕ → Ending F → SinkSeen → SinkSeen → Type 0)
    (s : RunSeen) (is_calm : Type 0) (before after : Told) (out_before out_after : SinkSeen)
    (stop : Option (StreamStop F)) : Type 0 where
  pub unread : stop ≡ Some (Run Memory) →
      (after ≡ before) ⊎ ReadsHead s before after
  pub broken : stop ≡ Some (Run ReadFault) →
      BreaksStream block takes leaves s is_calm before after out_before out_after
