-- What the exit status of a run says, of a program that records or searches files; both programs say it by these names.
-- Source: this project's choice.
use Rattle.std.specs.Prelude.{◌≡◌, ◌≢◌, ℕ, ◌+◌, ◌<◌, ◌≤◌, ◌⊎◌, true, false, min, List, [], ◌∷◌, length, map, Option, Some, None, Result, Ok, Err, IsSome, Contains}
use Rattle.std.specs.List.{range_with_len}
use mathlib.Core.List.{IsPrefix}
use Rattle.psr_base.specs.Count.{Rose}
use Rattle.psr_base.specs.Told.{Told, InputsSeen, history}
use Rattle.psr_base.specs.Made.{NamedBytes, FilesSeen}
use Rattle.psr_base.specs.Written.{SinkSeen, Noted}
use Rattle.ring_blocks.specs.declared.Entry.{Entry}
use Rattle.ring_ends.specs.declared.finished.Finished.{Finished}
use Rattle.ring_ends.specs.Ended.{sealed_at_end, cleared_at_end}
use Rattle.stream_model.specs.Blocks.{ended_transfers, transfer_bytes}
use Rattle.stream_model.specs.Walk.{FileStream, transfer_data, walk_stream}
use Rattle.stream_model.specs.RecordedLaws.{RecordedTransfer, recorded_of_transfers}
use Rattle.dada_recorder.specs.declared.answers.RecordEnd.{RecordEnd}
use Rattle.dada_recorder.specs.declared.answers.RecordEnd.TheVariants as recorder
use Rattle.dada_recorder.specs.Making.{Outset, BeginsAt, HasMade, BreaksOff}
use Rattle.disk_feeder.specs.declared.place.Place.{Place}
use Rattle.disk_feeder.specs.Feeding.{IsBroken, IsCutAt, IsCutPast}
use Rattle.disk_feeder.specs.Filling.{HoldsAll}
use Rattle.disk_feeder.specs.History.{file_name, read_before, IsShut, BreaksIf}
use Rattle.disk_feeder.specs.Plan.{opened_at}
use Rattle.disk_feeder.specs.declared.answers.HeaderCause.{HeaderCause}
use Rattle.run_outcome.specs.Firsts.{ReadsFirsts, BreaksFirstAt}
use Rattle.run_outcome.specs.declared.causes.PlanCause.{PlanCause}
use Rattle.run_outcome.specs.declared.causes.RecordingCause.{RecordingCause}
use Rattle.run_outcome.specs.declared.stop.Stop.{Stop}
use Rattle.run_outcome.specs.declared.stop.Stop.TheVariants.{Header, Gap, TooLong}
use Rattle.run_outcome.specs.Texts.{status_of, note_of}
use Rattle.run_outcome.specs.Runs.{Task, SettingsFor, Says, ForFiles, ForFirsts, ForFilesTo, ForFilesWithFirsts, plan_for, first_recording, CanBegin, BeginsByFirsts, RefusesFirsts, RefusesSearches, RefusesRecordings, PassesTo, IsWalkStop, StopsThere, SaysOfFiles, IsStopOfWords}

-- ---- the words

-- 2 exactly where the words say no settings; 5 may come before they are read
pub record JudgesWords (task : Task) (words : List (List ℕ)) (status : ℕ) : Type 0 where
  pub refused : status ≡ 2 → (s : SettingsFor task) → ¬ Says task words s
  pub said : status ≢ 2 → status ≢ 5 → (s : SettingsFor task) × Says task words s

-- ---- the inputs

-- 6 only where the inputs failed, which calm ones that hold all files don't
pub record ReadsInputs
    (task : Task) (words : List (List ℕ)) (inputs : InputsSeen) (is_calm : Type 0)
    (status : ℕ) : Type 0 where
  pub failed : status ≡ 6 → Rose inputs.faults_before inputs.faults_after
  pub quiet : status ≢ 6 → inputs.faults_after ≡ inputs.faults_before
  pub count : inputs.faults_before ≤ inputs.faults_after
  pub serves : is_calm → (s : SettingsFor task) → Says task words s →
      HoldsAll inputs.told s.names → status ≢ 6

-- what went through the data ring, where there was one
abbrev pub blocks_of : {T E : Type 0} → (T → Finished) → Result T E → Option Finished
blocks_of blocks (Ok found) = Some (blocks found)
blocks_of blocks (Err stop) = None

-- no file was opened; or the first file of each transfer was, in order, and no byte past its header was read
abbrev pub ReadsNoData : Task → List (List ℕ) → Told → Told → Type 0
ReadsNoData task words before after = (after ≡ before)
    ⊎ ForFirsts task words before (λ s w. ReadsFirsts s.names w before after)

-- What a fault of the inputs leaves before the session: the header of some transfer's first file isn't judged by what
-- was read, and those of the transfers before it have headers.
abbrev pub BreaksFirsts : Task → List (List ℕ) → Type 0 → Told → Told → Type 0
BreaksFirsts task words is_calm before after = (s : SettingsFor task) → Says task words s →
    BreaksFirstAt s.names s.starts is_calm before after

-- What it leaves from the session on: all first headers are accepted, and it came at this place, whose file is there.
-- No file before that one stops the walk, each by the files up to it. By those that were opened, nothing that was read
-- does, and the full blocks of the transfer are those of the data bytes that were read of it. Where the file at the
-- place is told too, and the first one of each transfer, it was not opened or its header isn't judged, or it was read
-- up to the place. Whether or not it is told, the full blocks are those of data that begin with the data of the files
-- before it, as far as these are told; and where the first one of each transfer is told too, the first headers and then
-- these files were read to their ends before anything else. Calm inputs could not open it, since it isn't told: where
-- those before it are, and the first one of each transfer, nothing else was read.
pub record BreaksWalk
    (task : Task) (words : List (List ℕ)) (is_calm : Type 0) (before after : Told)
    (blocks : Finished) : Type 0 where
  pub at : Place
  pub begun : BeginsByFirsts task words before
  pub there : (s : SettingsFor task) → Says task words s → at.file < length s.names
  pub passed : PassesTo at.file task words before
  pub cut : ForFilesTo (opened_at at) task words before (λ s w.
      IsCutAt w at s.size (sealed_at_end blocks))
  pub stood : ForFilesWithFirsts (at.file + 1) task words before (λ s w.
      BreaksIf at.is_open s.names w before after at)
  pub past : (s : SettingsFor task) → Says task words s →
      IsCutPast (plan_for s) before at s.size (sealed_at_end blocks)
  pub through : (k : ℕ) → k ≤ at.file → ForFilesWithFirsts k task words before (λ s w.
      IsPrefix (history (read_before s.names w k before)) (history after))
  pub missing : is_calm → (s : SettingsFor task) → Says task words s →
      (at.file < length s.names) × ¬ IsSome (before.bytes_under (file_name s.names at.file))
  pub shut : is_calm → at.is_open ≡ false
  pub unopened : is_calm → ForFilesWithFirsts at.file task words before (λ s w.
      IsShut s.names w before after at.transfer at.file at.since)

-- what a fault of the inputs leaves, by whether there were blocks of data
abbrev pub LeavesAtFault : Task → List (List ℕ) → Type 0 → Told → Told → Option Finished → Type 0
LeavesAtFault task words is_calm before after None = BreaksFirsts task words is_calm before after
LeavesAtFault task words is_calm before after (Some blocks) =
    BreaksWalk task words is_calm before after blocks

-- ---- the files that are read

-- the walk stops at some file, and P holds there; what was sealed is its stream
abbrev pub StopsSealed
    : (task : Task) → List (List ℕ) → Told → Option Finished
    → (SettingsFor task → FileStream → Type 0) → Type 0
StopsSealed task words told blocks P = (file : ℕ) × StopsThere file task words told (λ s w.
    P s w × ((b : Finished) → blocks ≡ Some b → sealed_at_end b ≡ walk_stream s.size w))

-- 3 only where a header is refused, of the first ones before data are read or where the walk stops at it; 4 only where
-- a search or a recording is; 7 only where the walk stops at a gap, and 8 only where there are too many data. A stop of
-- the walk is so by the files up to it, whatever comes after these.
pub record StopsAtFiles
    (task : Task) (words : List (List ℕ)) (told : Told) (blocks : Option Finished)
    (status : ℕ) : Type 0 where
  pub first_header : status ≡ 3 → blocks ≡ None → (file : ℕ) × (cause : HeaderCause)
      × RefusesFirsts task words told file cause
  pub later_header : status ≡ 3 → IsSome blocks → StopsSealed task words told blocks (λ s w.
      (file : ℕ) × (cause : HeaderCause) × IsWalkStop w (Header file cause))
  pub plan : status ≡ 4 → ((cause : PlanCause) × RefusesSearches task words told cause)
      ⊎ ((cause : RecordingCause) × RefusesRecordings task words told cause)
  pub gap : status ≡ 7 → StopsSealed task words told blocks (λ s w.
      (file : ℕ) × (expected : ℕ) × (found : ℕ) × IsWalkStop w (Gap file expected found))
  pub too_long : status ≡ 8 → StopsSealed task words told blocks (λ s w.
      IsWalkStop w (TooLong s.max_bytes))

-- ---- the data ring

-- A fault of the inputs broke the stream off at some place, whose file is there. No file before that one stops the
-- walk, and by the files that were opened the blocks are those of a front of the data.
pub record BreaksStream (task : Task) (words : List (List ℕ)) (told : Told) (blocks : Finished) :
    Type 0 where
  pub at : Place
  pub there : (s : SettingsFor task) → Says task words s → at.file < length s.names
  pub passed : PassesTo at.file task words told
  pub front : ForFilesTo (opened_at at) task words told (λ s w.
      IsBroken w s.size (sealed_at_end blocks))

-- What went through the data ring, which is there from the session on: the stream of the walk, whole or abandoned; at a
-- fault of the inputs an abandoned stream of what was read. Nothing stands against a run then by its first files, and
-- where all data were sealed no file stops the walk, each by the files up to it.
pub record SealsStream
    (task : Task) (words : List (List ℕ)) (told : Told) (blocks : Option Finished)
    (status : ℕ) : Type 0 where
  pub none : blocks ≡ None → Contains (2 ∷ 3 ∷ 4 ∷ 5 ∷ 6 ∷ []) status
  pub some : IsSome blocks → Contains (0 ∷ 3 ∷ 6 ∷ 7 ∷ 8 ∷ 9 ∷ 10 ∷ 11 ∷ []) status
  pub begun : IsSome blocks → BeginsByFirsts task words told
  pub passed : IsSome blocks → Contains (0 ∷ 9 ∷ 10 ∷ 11 ∷ []) status →
      (s : SettingsFor task) → Says task words s → PassesTo (length s.names) task words told
  pub sealed : (b : Finished) → blocks ≡ Some b → status ≢ 6 → ForFiles task words told (λ s w.
      CanBegin task s w × (sealed_at_end b ≡ walk_stream s.size w))
  pub broken : (b : Finished) → blocks ≡ Some b → status ≡ 6 → BreaksStream task words told b

-- the readers from this number on, so many, cleared all that was sealed
abbrev pub AllCleared : Finished → ℕ → ℕ → Type 0
AllCleared b from count = (k : ℕ) → k < count → cleared_at_end b (from + k) ≡ sealed_at_end b

-- ---- the files that are made

-- the first transfers, so many, as they are recorded with these data
abbrev pub recorded_transfers : FileStream → ℕ → ℕ → (ℕ → List ℕ) → List RecordedTransfer
recorded_transfers w file_size count bytes_of =
    map (λ k. record { recording = first_recording w file_size k; bytes = bytes_of k })
    (range_with_len 0 count)

-- the files of all data
abbrev pub files_of_data : FileStream → ℕ → List NamedBytes
files_of_data w file_size =
    recorded_of_transfers (recorded_transfers w file_size (length w.starts) (transfer_data w))

-- the files of data blocks: of the transfers that ended in them, and of the next one
abbrev pub files_of_stream : FileStream → ℕ → List Entry → List NamedBytes
files_of_stream w file_size blocks = recorded_of_transfers
    (recorded_transfers w file_size (min (ended_transfers blocks + 1) (length w.starts))
    (λ k. transfer_bytes k blocks))

-- files were made, all of them finished, and no call failed
pub record MadeAll (files : List NamedBytes) (before after : FilesSeen) : Type 0 where
  pub made : (outset : Outset) → BeginsAt outset before → HasMade outset false files after
  pub faults : after.faults ≡ before.faults

-- A call failed before all of them were made: a front of them was. What is told to be left was not enough for them.
pub record MadeFront (files : List NamedBytes) (before after : FilesSeen) : Type 0 where
  pub made : (outset : Outset) → BeginsAt outset before → BreaksOff outset files after
  pub rose : Rose before.faults after.faults
  pub count : before.faults ≤ after.faults

-- what the end of a recorder says of these files: all of them were made, so many, or a call failed
abbrev pub MadeBy : RecordEnd → List NamedBytes → FilesSeen → FilesSeen → Type 0
MadeBy (recorder.Whole count) files before after =
    (count ≡ length files) × MadeAll files before after
MadeBy (recorder.Cut count) files before after =
    (count ≡ length files) × MadeAll files before after
MadeBy recorder.FileFault files before after = MadeFront files before after
MadeBy (recorder.BadHeader fault) files before after = ⊥
MadeBy (recorder.TooLong limit) files before after = ⊥

-- The statuses at which a recorder can have ended so: with all data if these were all sealed, cut if the stream was
-- given up, and with a fault at each of these but 0; 11 says that fault itself.
abbrev pub CanEndAt : RecordEnd → ℕ → Type 0
CanEndAt (recorder.Whole count) status = Contains (0 ∷ 9 ∷ 10 ∷ []) status
CanEndAt (recorder.Cut count) status = Contains (3 ∷ 6 ∷ 7 ∷ 8 ∷ []) status
CanEndAt recorder.FileFault status = Contains (3 ∷ 6 ∷ 7 ∷ 8 ∷ 9 ∷ 10 ∷ 11 ∷ []) status
CanEndAt (recorder.BadHeader fault) status = ⊥
CanEndAt (recorder.TooLong limit) status = ⊥

-- How the recorder of a run ended, and what it made. Before the session, and where nothing is recorded, there is none,
-- and the files stand; else there is one, at each status. If it ended whole, as at 0, it made the files of all data, and
-- at 11, which comes only if it ended with a fault, a front of those. By the first files alone, it made those of the
-- stream that went through, or a front of them if it ended with a fault. The count of faults rose exactly then.
pub record RecordsFiles
    (task : Task) (words : List (List ℕ)) (told : Told) (blocks : Option Finished)
    (recorded : Option RecordEnd) (before after : FilesSeen) (status : ℕ) : Type 0 where
  pub before_session : blocks ≡ None → (after ≡ before) × (recorded ≡ None)
  pub unrecorded : (s : SettingsFor task) → Says task words s → s.recording ≡ false →
      (after ≡ before) × (status ≢ 11) × (recorded ≡ None)
  pub ended : IsSome blocks → (s : SettingsFor task) → Says task words s → s.recording ≡ true →
      IsSome recorded
  pub shown : (end : RecordEnd) → recorded ≡ Some end → CanEndAt end status
  pub all : status ≡ 0 → ForFiles task words told (λ s w. s.recording ≡ true →
      (recorded ≡ Some (recorder.Whole (length (files_of_data w s.file_size))))
      × MadeAll (files_of_data w s.file_size) before after)
  pub whole : (count : ℕ) → recorded ≡ Some (recorder.Whole count) →
      ForFiles task words told (λ s w. (count ≡ length (files_of_data w s.file_size))
      × MadeAll (files_of_data w s.file_size) before after)
  pub front : status ≡ 11 → ForFiles task words told (λ s w.
      MadeFront (files_of_data w s.file_size) before after)
  pub stream : (b : Finished) → blocks ≡ Some b → (end : RecordEnd) → recorded ≡ Some end →
      ForFirsts task words told (λ s w.
      MadeBy end (files_of_stream w s.file_size (sealed_at_end b)) before after)
  pub failed : status ≡ 11 → recorded ≡ Some recorder.FileFault
  pub rose : recorded ≡ Some recorder.FileFault → Rose before.faults after.faults
  pub quiet : recorded ≢ Some recorder.FileFault → after.faults ≡ before.faults
  pub count : before.faults ≤ after.faults

-- What a run leaves of the files that it was lent. Before the session, and where nothing is recorded, they stand. If no
-- file was open before, none is open at 0, nor at any other status if no call on the files failed; nor at any status
-- unless the recorder ended with a fault. In this: whether a file is open, and what files show.
pub record LeavesFiles {F : Type 0}
    (task : Task) (words : List (List ℕ)) (files_open : F → Type 0) (seen : F → FilesSeen)
    (before after : F) (blocks : Option Finished) (recorded : Option RecordEnd) (status : ℕ)
    : Type 0 where
  pub before_session : blocks ≡ None → after ≡ before
  pub unrecorded : (s : SettingsFor task) → Says task words s → s.recording ≡ false →
      after ≡ before
  pub closed : (status ≡ 0) ⊎ ¬ Rose (seen before).faults (seen after).faults →
      ¬ files_open before → ¬ files_open after
  pub shut : recorded ≢ Some recorder.FileFault → ¬ files_open before → ¬ files_open after

-- ---- the notes

-- a stop is answered: by its exit status, and by its line to the notes, of which these took the front at a fault
pub record AnswersStop (stop : Stop) (before after : SinkSeen) (status : ℕ) : Type 0 where
  pub answered : status ≡ status_of stop
  pub line : Noted (note_of stop) before after

-- the notes took the line of a stop with the status, or its front at a fault of theirs; what it says of the words and
-- of the files is so
pub record NotesStop
    (task : Task) (words : List (List ℕ)) (told : Told) (before after : SinkSeen)
    (status : ℕ) : Type 0 where
  pub stop : Stop
  pub answered : status ≡ status_of stop
  pub words_cause : IsStopOfWords task words stop
  pub cause : SaysOfFiles task words told stop
  pub line : Noted (note_of stop) before after

-- nothing at 0, and one line at each other status
pub record TellsNotes
    (task : Task) (words : List (List ℕ)) (told : Told) (before after : SinkSeen)
    (status : ℕ) : Type 0 where
  pub silent : status ≡ 0 → after ≡ before
  pub noted : status ≢ 0 → NotesStop task words told before after status
