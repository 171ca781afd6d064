-- What a run came to that was opened, or that stopped before: for all words that say its settings, and over the files
-- as they were told before any of them was read. Laws of it; functions of this crate carry them.
-- Source: this project's choice.
use Rattle.std.specs.Prelude.{◌≡◌, ◌≢◌, ℕ, ◌<◌, ◌≤◌, true, false, List, length, Option, Some, None, IsSome}
use Rattle.psr_base.specs.Count.{Rose}
use Rattle.psr_base.specs.Made.{FilesSeen}
use Rattle.psr_base.specs.Told.{Told}
use Rattle.ring_ends.specs.declared.finished.Finished.{Finished}
use Rattle.ring_ends.specs.Ended.{sealed_at_end}
use Rattle.search_words.specs.Settings.{SettingsOf, with_search}
use Rattle.stream_model.specs.Blocks.{transfer_bytes}
use Rattle.stream_model.specs.Walk.{transfer_data}
use Rattle.disk_feeder.specs.declared.answers.FeedEnd.{FeedEnd}
use Rattle.disk_feeder.specs.declared.answers.FeedEnd.TheVariants.{Whole, ReadFault}
use Rattle.disk_feeder.specs.declared.feeder.Feeder.{Feeder}
use Rattle.disk_feeder.specs.declared.place.Place.{Place}
use Rattle.disk_feeder.specs.Feeder.{HasPlan, FeederRead}
use Rattle.disk_feeder.specs.Feeding.{IsCutPast}
use Rattle.disk_feeder.specs.Filling.{HoldsAll}
use Rattle.disk_feeder.specs.Plan.{Plan, AreToldAt, IsFirstFile}
use Rattle.dada_recorder.specs.declared.answers.RecordEnd.{RecordEnd}
use Rattle.dada_recorder.specs.declared.answers.RecordEnd.TheVariants.{FileFault}
use Rattle.search_session.specs.declared.ended.SessionEnd.{SessionEnd}
use Rattle.search_session.specs.Sessions.{FeedAnswers}
use Rattle.run_outcome.specs.declared.stop.Stop.{Stop}
use Rattle.run_outcome.specs.declared.stop.Stop.TheVariants.{Memory, ReadFault as FailedRead}
use Rattle.run_outcome.specs.Runs.{Task, SettingsFor}
use Rattle.run_outcome.specs.Ends.{StopsBefore, IsRunFed, EndsAsFed, IsRecorded}
use Rattle.run_outcome.specs.Outcomes.{ReadsNoData, LeavesAtFault, MadeBy, files_of_stream}
use Rattle.search_opening.specs.Early.{StopsEarly, LeavesEarly}
use Rattle.search_opening.specs.Settings.{ForWords, OfRun, OfRunFirsts, BeginsRun}

-- ---- before the session

-- what is said of a run that its settings ended is said for all words that say these settings
abbrev pub EarlyStopsAreSaid : Type 0
EarlyStopsAreSaid = (task : Task) (s : SettingsFor task) (told : Told) (stop : Stop) →
    StopsEarly task s told stop → ForWords task s (λ words. StopsBefore task words told stop)

-- What it has read, for all words that say its settings: no data, where there was no memory; and at a fault of its
-- inputs what that leaves.
pub record LeavesBefore (task : Task) (s : SettingsFor task) (is_calm : Type 0) (before after : Told)
    (stop : Stop) : Type 0 where
  pub unread : stop ≡ Memory → ForWords task s (λ words. ReadsNoData task words before after)
  pub broken : stop ≡ FailedRead → ForWords task s (λ words.
      LeavesAtFault task words is_calm before after None)

abbrev pub EarlyStopsLeave : Type 0 → Type 0
EarlyStopsLeave is_calm = (task : Task) (s : SettingsFor task) (before after : Told) (stop : Stop) →
    LeavesEarly (with_search tt s) is_calm before after stop → LeavesBefore task s is_calm before after stop

-- the first files are told as long as what is told under their names stands
abbrev pub FirstsStayTold : Type 0
FirstsStayTold = (names : List (List ℕ)) (starts : List ℕ) (old new : Told)
    (files : List (List ℕ)) → new.bytes_under ≡ old.bytes_under →
    AreToldAt (IsFirstFile starts (length names)) old names files →
    AreToldAt (IsFirstFile starts (length names)) new names files

-- What was sealed at a fault is so for each plan with the same names, starts and limit, as long as what is told under
-- the names stands.
abbrev pub CutsStayTold : Type 0
CutsStayTold = (plan plan' : Plan) (old new : Told) (at : Place) (size : ℕ) (blocks : List _) →
    plan.names ≡ plan'.names → plan.starts ≡ plan'.starts → plan.max_bytes ≡ plan'.max_bytes →
    new.bytes_under ≡ old.bytes_under → IsCutPast plan new at size blocks →
    IsCutPast plan' old at size blocks

-- ---- by its session

-- A feeder has read since the inputs were `before`. In this and the next two `told` is what inputs tell, and `is_calm`
-- whether they are calm.
pub record HasReadSince {I : Type 0} (told : I → Told) (is_calm : I → Type 0) (before : I)
    (feeder : Feeder I) : Type 0 where
  pub names : (told feeder.inputs.now).bytes_under ≡ (told before).bytes_under
  pub calm : is_calm before → is_calm feeder.inputs.now
  pub reads : FeederRead (told before) (told feeder.inputs.now) feeder

-- A session went through: its feeder sealed these blocks and ended so, and the inputs are `after`. Where nothing stood
-- against the run, its feeder did what that of a run does, and a fault of its inputs left what one leaves; calm inputs
-- that hold all files don't fail. Where all data were sealed, those of each transfer are those of its files, within the
-- limit.
pub record HasFed {I : Type 0} (told : I → Told) (is_calm : I → Type 0) (task : Task)
    (s : SettingsFor task) (before : I) (feeder : Feeder I) (after : I) (blocks : Finished) (feed : FeedEnd) :
    Type 0 where
  pub fed : BeginsRun task (told feeder.inputs.now) s →
      ForWords task s (λ words. IsRunFed task words (told before) blocks feed)
  pub broken : feed ≡ ReadFault → BeginsRun task (told feeder.inputs.now) s →
      ForWords task s (λ words.
      LeavesAtFault task words (is_calm before) (told before) (told after) (Some blocks))
  pub serves : is_calm before → HoldsAll (told before) s.names → feed ≢ ReadFault
  pub through : (bytes : ℕ) → feed ≡ Whole bytes → OfRun (told before) s (λ w. (k : ℕ) →
      k < length w.starts → transfer_bytes k (sealed_at_end blocks) ≡ transfer_data w k)
  pub few : (bytes : ℕ) → feed ≡ Whole bytes → bytes ≤ s.max_bytes

-- `HasFed` holds for every task, for all settings whose files the feeder reads, and for all inputs since which it has
-- read
abbrev pub HasFedFiles : {I : Type 0} → (I → Told) → (I → Type 0) → Feeder I → I → Finished → FeedEnd →
    Type 0
HasFedFiles {I} told is_calm feeder after blocks feed = (task : Task) (s : SettingsFor task)
    (before : I) →
    HasPlan feeder s.names s.starts s.size s.max_bytes →
    HasReadSince told is_calm before feeder →
    HasFed told is_calm task s before feeder after blocks feed

-- the feeder of a session does; how many calls of inputs have failed is counted by `faults`
abbrev pub SessionsFeedFiles : {I : Type 0} → (F : Type 0) → (I → Told) → (I → Type 0) → (I → ℕ) →
    Type 0
SessionsFeedFiles {I} F told is_calm faults = (feeder : Feeder I) (end : SessionEnd I F) →
    FeedAnswers told is_calm faults feeder end →
    HasFedFiles told is_calm feeder end.inputs.now end.blocks end.feed

-- ---- by its recorder

-- What was recorded of what went through, over the settings: all of it, or a front where a call failed; or nothing was
-- to be recorded. The feeder ended so, and the recorder with this answer, if there was one.
pub record RecordsRun {S : Type 0} (s : SettingsOf S) (told : Told) (blocks : Finished)
    (feed : FeedEnd) (answer : Option RecordEnd) (before after : FilesSeen) : Type 0 where
  pub unrecorded : s.recording ≡ false → (after ≡ before) × (answer ≡ None)
  pub ended : s.recording ≡ true → IsSome answer
  pub as_fed : (end : RecordEnd) → answer ≡ Some end → EndsAsFed feed end
  pub made : (end : RecordEnd) → answer ≡ Some end → OfRunFirsts told s (λ w.
      MadeBy end (files_of_stream w s.file_size (sealed_at_end blocks)) before after)
  pub rose : answer ≡ Some FileFault → Rose before.faults after.faults
  pub quiet : answer ≢ Some FileFault → after.faults ≡ before.faults
  pub count : before.faults ≤ after.faults

-- so its words say, over the files as they were told before
abbrev pub RecordingsAreSaid : Type 0
RecordingsAreSaid = (task : Task) (s : SettingsFor task) (old new : Told) (blocks : Finished)
    (feed : FeedEnd) (answer : Option RecordEnd) (before after : FilesSeen) →
    new.bytes_under ≡ old.bytes_under → RecordsRun s new blocks feed answer before after →
    ForWords task s (λ words. IsRecorded task words old blocks feed answer before after)
