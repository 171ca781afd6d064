-- Laws of what a recorder stands for; functions of this crate carry them.
-- Source: this project's profile.
use mathlib.Core.List.{IsPrefix}
use Rattle.std.specs.Prelude.{◌≡◌, ℕ, ◌+◌, ◌≤◌, Bool, true, false, List, [], ◌++◌, length, Some}
use Rattle.psr_base.specs.Made.{FilesSeen}
use Rattle.ring_blocks.specs.declared.Entry.{Entry}
use Rattle.stream_model.specs.Blocks.{ended_transfers, has_cut, is_over}
use Rattle.dada_recorder.specs.declared.answers.RecordEnd.{RecordEnd}
use Rattle.dada_recorder.specs.declared.answers.RecordEnd.TheVariants.{Whole, Cut, FileFault, BadHeader, TooLong}
use Rattle.dada_recorder.specs.Making.{Outset, HasMade, BreaksOff}
use Rattle.dada_recorder.specs.Blocks.{RecordPlan, files_of_blocks}
use Rattle.dada_recorder.specs.Recording.{AreInLimits, EndIs, FilesAre}

-- The blocks of a stream that is over at its last data block and no sooner: no header comes before
-- the end of the transfer before its own, each is accepted, and the data lie within the limit.
pub record AreComplete (plan : RecordPlan) (headers blocks : List Entry) : Type 0 where
  pub in_limits : AreInLimits plan headers blocks
  pub once : (front rest : List Entry) → front ++ rest ≡ blocks →
      is_over (length plan.offsets) front ≡ true → rest ≡ []
  pub begun : length headers ≤ ended_transfers blocks + 1
  pub few : length headers ≤ length plan.offsets

-- blocks that were cleared of both rings, and the blocks that were sealed
pub record Cleared : Type 0 where
  pub headers : List Entry
  pub blocks : List Entry
  pub all_headers : List Entry
  pub all_blocks : List Entry

-- the cleared ones begin the sealed ones, of which the stream is complete
pub record BeginsComplete (plan : RecordPlan) (c : Cleared) : Type 0 where
  pub complete : AreComplete plan c.all_headers c.all_blocks
  pub headers : IsPrefix c.headers c.all_headers
  pub blocks : IsPrefix c.blocks c.all_blocks

-- all sealed blocks were cleared
pub record AreAllCleared (c : Cleared) : Type 0 where
  pub headers : c.headers ≡ c.all_headers
  pub blocks : c.blocks ≡ c.all_blocks

-- all sealed blocks were cleared and recorded in so many files, and whether they were given up
pub record AreAllRecorded (plan : RecordPlan) (c : Cleared) (cut : Bool) (files : ℕ) : Type 0 where
  pub cleared : AreAllCleared c
  pub given_up : has_cut c.all_blocks ≡ cut
  pub count : files ≡ length (files_of_blocks plan c.all_headers c.all_blocks)

-- the end of a complete stream: it is whole, or it was given up, as the data say; or a call failed
-- before
abbrev pub EndsComplete : RecordPlan → Cleared → RecordEnd → Type 0
EndsComplete plan c (Whole files) = AreAllRecorded plan c false files
EndsComplete plan c (Cut files) = AreAllRecorded plan c true files
EndsComplete plan c FileFault = Unit {0}
EndsComplete plan c (BadHeader fault) = ⊥
EndsComplete plan c (TooLong limit) = ⊥

-- the files of all sealed blocks are there; or a front of them, where what was left was not enough or was not told, or
-- a name was not new
abbrev pub HasFilesOfAll : RecordPlan → Outset → Cleared → RecordEnd → FilesSeen → Type 0
HasFilesOfAll plan outset c (Whole files) seen =
    HasMade outset false (files_of_blocks plan c.all_headers c.all_blocks) seen
HasFilesOfAll plan outset c (Cut files) seen =
    HasMade outset false (files_of_blocks plan c.all_headers c.all_blocks) seen
HasFilesOfAll plan outset c FileFault seen =
    BreaksOff outset (files_of_blocks plan c.all_headers c.all_blocks) seen
HasFilesOfAll plan outset c (BadHeader fault) seen = ⊥
HasFilesOfAll plan outset c (TooLong limit) seen = ⊥

-- The end of a recorder that cleared a beginning of a complete stream, and its files.
pub record RecordingsEnd : Type 0 where
  pub ends : (plan : RecordPlan) (c : Cleared) (has_header : Bool) (end : RecordEnd) →
      BeginsComplete plan c → EndIs plan has_header c.headers c.blocks (Some end) →
      EndsComplete plan c end
  pub files : (plan : RecordPlan) (c : Cleared) (has_header is_open : Bool) (end : RecordEnd)
      (outset : Outset) (seen : FilesSeen) → 1 ≤ plan.file_size →
      BeginsComplete plan c → EndIs plan has_header c.headers c.blocks (Some end) →
      FilesAre plan outset is_open c.headers c.blocks (Some end) seen →
      HasFilesOfAll plan outset c end seen
