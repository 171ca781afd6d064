-- What a session records.
-- Source: PSRDADA manual (dada_dbdisk); what is refused is this project's profile.
use Rattle.std.specs.Prelude.{◌≡◌, ◌≢◌, ℕ, ◌+◌, ◌≤◌, ⊤, false, List, length, take, slice_get, Option, Some, None}
use Rattle.std.specs.Borrow.{MutBor}
use Rattle.dada_model.specs.Fields.{HeaderText}
use Rattle.dada_model.specs.ChangeLaws.{IsReadBack}
use Rattle.psr_base.specs.Count.{Rose}
use Rattle.psr_base.specs.Made.{NamedBytes, FilesSeen}
use Rattle.stream_model.specs.Blocks.{ended_transfers}
use Rattle.stream_model.specs.Recorded.{record_refusal}
use Rattle.ring_blocks.specs.declared.Entry.{Entry}
use Rattle.ring_ends.specs.Ended.{sealed_at_end, cleared_at_end}
use Rattle.disk_feeder.specs.declared.answers.FeedEnd.{FeedEnd}
use Rattle.disk_feeder.specs.declared.answers.FeedEnd.TheVariants as feed
use Rattle.disk_feeder.specs.declared.feeder.Feeder.{Feeder}
use Rattle.disk_feeder.specs.Plan.{Plan}
use Rattle.disk_feeder.specs.Feeder.{plan_at, headers_of}
use Rattle.disk_feeder.specs.Feeding.{header_entries}
use Rattle.dada_recorder.specs.declared.answers.RecordEnd.{RecordEnd}
use Rattle.dada_recorder.specs.declared.answers.RecordEnd.TheVariants.{Whole, Cut, FileFault, BadHeader, TooLong}
use Rattle.dada_recorder.specs.declared.recorder.Recorder.{Recorder}
use Rattle.dada_recorder.specs.Making.{Outset, BeginsAt, HasMade, BreaksOff}
use Rattle.dada_recorder.specs.Blocks.{RecordPlan, under_header, files_of_blocks}
use Rattle.dada_recorder.specs.Recorder.{plan_of}
use Rattle.search_session.specs.declared.ended.SessionEnd.{SessionEnd}

-- ---- what is recorded

-- the header blocks that a feeder sealed: those of the transfers that ended, and that of the next one
abbrev pub headers_through : {I F : Type 0} → Feeder I → SessionEnd I F → List Entry
headers_through feeder end =
    header_entries (take (ended_transfers (sealed_at_end end.blocks) + 1) (headers_of feeder))

-- the files of all blocks that were sealed
abbrev pub files_through : {I F : Type 0} → Feeder I → Recorder F → SessionEnd I F →
    List NamedBytes
files_through feeder r end =
    files_of_blocks (plan_of r) (headers_through feeder end) (sealed_at_end end.blocks)

-- Nothing that a feeder seals stands against its recording: each of its headers can be recorded under, there is an
-- offset for each transfer, and there are no more data than may be recorded.
pub record SealsRecordable (plan : RecordPlan) (feed : Plan) : Type 0 where
  pub accepted : (k : ℕ) (header : HeaderText) → slice_get feed.headers k ≡ Some header →
      IsReadBack header × (record_refusal (under_header plan k header) plan.max_bytes ≡ None)
  pub headers : length feed.headers ≡ length feed.starts
  pub transfers : length plan.offsets ≡ length feed.starts
  pub limit : feed.max_bytes ≤ plan.max_bytes

-- ---- what a recorder comes to

-- It ended as the feeder did, and counted these files; or a call failed.
abbrev pub EndsRecording : FeedEnd → List NamedBytes → RecordEnd → Type 0
EndsRecording fed files (Whole count) =
    ((bytes : ℕ) × (fed ≡ feed.Whole bytes)) × (count ≡ length files)
EndsRecording fed files (Cut count) =
    ((bytes : ℕ) → fed ≢ feed.Whole bytes) × (count ≡ length files)
EndsRecording fed files FileFault = ⊤
EndsRecording fed files (BadHeader fault) = ⊥
EndsRecording fed files (TooLong limit) = ⊥

-- what is told since the outset is these files, all finished; or at a fault a front of them, where what was left was
-- not enough or was not told
abbrev pub HasRecorded : Outset → List NamedBytes → FilesSeen → RecordEnd → Type 0
HasRecorded outset files seen (Whole count) = HasMade outset false files seen
HasRecorded outset files seen (Cut count) = HasMade outset false files seen
HasRecorded outset files seen FileFault = BreaksOff outset files seen
HasRecorded outset files seen (BadHeader fault) = ⊥
HasRecorded outset files seen (TooLong limit) = ⊥

-- What a recorder came to, whose reader has this number. It gives its files back. It met a fault only where their count
-- rose, and else they hold all files of what was sealed, and none is open. In this: whether a file is open, and what
-- files show.
pub record RecordedBy {I F : Type 0} (files_open : F → Type 0) (seen : F → FilesSeen)
    (feeder : Feeder I) (r : Recorder F) (reader : ℕ) (end : SessionEnd I F) : Type 0 where
  pub answer : RecordEnd
  pub is : end.recorded ≡ Some answer
  pub files : MutBor F
  pub given : end.files ≡ Some files
  pub same_reference : files.ghost_name ≡ r.files.ghost_name
  pub count : (seen r.files.now).faults ≤ (seen files.now).faults
  pub failed : answer ≡ FileFault → Rose (seen r.files.now).faults (seen files.now).faults
  pub quiet : answer ≢ FileFault → (seen files.now).faults ≡ (seen r.files.now).faults
  pub closed : answer ≢ FileFault → ¬ files_open files.now
  pub ends : SealsRecordable (plan_of r) (plan_at feeder) →
      EndsRecording end.feed (files_through feeder r end) answer
  pub made : SealsRecordable (plan_of r) (plan_at feeder) → (outset : Outset) →
      BeginsAt outset (seen r.files.now) →
      HasRecorded outset (files_through feeder r end) (seen files.now) answer
  pub cleared : SealsRecordable (plan_of r) (plan_at feeder) → answer ≢ FileFault →
      cleared_at_end end.blocks reader ≡ sealed_at_end end.blocks

-- nothing was recorded
pub record HasNoRecording {I F : Type 0} (end : SessionEnd I F) : Type 0 where
  pub recorded : end.recorded ≡ None
  pub files : end.files ≡ None

-- what a session recorded, where its stage had this recorder
abbrev pub RecordedAnswers : {I F : Type 0} → (F → Type 0) → (F → FilesSeen) → Feeder I →
    Option (Recorder F) → ℕ → SessionEnd I F → Type 0
RecordedAnswers files_open seen feeder None reader end = HasNoRecording end
RecordedAnswers files_open seen feeder (Some r) reader end =
    RecordedBy files_open seen feeder r reader end
