-- What contracts see of a recorder.
-- Source: this project's profile.
use Rattle.std.specs.Prelude.{◌≡◌, ℕ, Bool, false, Option, None, List, []}
use Rattle.psr_base.specs.Made.{FilesSeen}
use Rattle.ring_blocks.specs.declared.Entry.{Entry}
use Rattle.dada_hdu.specs.declared.passes.HduReader.{HduReader}
use Rattle.dada_recorder.specs.declared.answers.RecordEnd.{RecordEnd}
use Rattle.dada_recorder.specs.declared.recorder.Recorder.{Recorder}
use Rattle.dada_recorder.specs.declared.space.RecorderSpace.{RecorderSpace}
use Rattle.dada_recorder.specs.Blocks.{RecordPlan}
use Rattle.dada_recorder.specs.Making.{Outset, BeginsAt, IsOpenAs}
use Rattle.dada_recorder.specs.Recording.{FilesAre, last_file_has_room}
use Rattle.dada_recorder.specs.Transfers.{plan_in, IsRunning, StandsAt, EndsClosed, CountsEnd}
use Rattle.dada_recorder.specs.Turns.{cleared_headers, cleared_blocks}

-- what it records of: the offsets of its transfers, and its limits
abbrev pub plan_of : {F : Type 0} → Recorder F → RecordPlan
plan_of r = plan_in r.space.transfers

-- the size of the data ring's blocks
abbrev pub block_size : {F : Type 0} → Recorder F → ℕ
block_size r = r.space.block

-- how it ended, if it did
abbrev pub has_end : {F : Type 0} → Recorder F → Option RecordEnd
has_end r = r.space.end

-- the header of a transfer was cleared, and its data are next
abbrev pub has_header : {F : Type 0} → Recorder F → Bool
has_header r = r.space.transfers.has_header

-- the file that was created last isn't finished
abbrev pub has_open_file : {F : Type 0} → Recorder F → Bool
has_open_file r = r.space.transfers.files.place.is_open

-- it cleared these blocks of the header ring and of the data ring
abbrev pub RecorderStands : {F : Type 0} → Recorder F → List Entry → List Entry → Type 0
RecorderStands r headers blocks = StandsAt r.space.transfers headers blocks r.space.end

-- what the files tell of these blocks
abbrev pub FilesAreOf : {F : Type 0} → Recorder F → Outset → List Entry → List Entry →
    FilesSeen → Type 0
FilesAreOf r outset headers blocks seen =
    FilesAre (plan_of r) outset (has_open_file r) headers blocks (has_end r) seen

-- ---- before the first turn

-- the space of a recorder with this plan, for blocks of this size
pub record IsSpaceFor (space : RecorderSpace) (plan : RecordPlan) (block : ℕ) : Type 0 where
  pub plan_is : plan_in space.transfers ≡ plan
  pub block_is : space.block ≡ block
  pub closed : space.transfers.files.place.is_open ≡ false
  pub running : space.end ≡ None
  pub nothing : IsRunning space.transfers [] []

-- a recorder with this plan, for blocks of this size, which read nothing and made nothing
pub record IsFreshFor {F : Type 0} (r : Recorder F) (plan : RecordPlan) (block : ℕ) : Type 0 where
  pub plan_is : plan_of r ≡ plan
  pub block_is : block_size r ≡ block
  pub closed : has_open_file r ≡ false
  pub running : has_end r ≡ None
  pub stands : RecorderStands r [] []
  pub made : (outset : Outset) (seen : FilesSeen) → BeginsAt outset seen →
      FilesAreOf r outset [] [] seen

-- ---- a turn

-- the recorder is for the same plan and blocks as before, over the same files
pub record IsSameRecorder {F : Type 0} (old new : Recorder F) : Type 0 where
  pub same_reference : new.files.ghost_name ≡ old.files.ghost_name
  pub plan : plan_of new ≡ plan_of old
  pub block : block_size new ≡ block_size old

-- What a turn makes of the files. While the recorder goes on, a file is open exactly where the last file of the blocks
-- that were cleared has room; at its end none is, unless a call failed. In this: whether a file is open, and what files
-- show.
pub record TurnMakes {F : Type 0} (files_open : F → Type 0) (seen : F → FilesSeen)
    (old : Recorder F) (pass : HduReader) (new : Recorder F) (pass' : HduReader) : Type 0 where
  pub is_open : has_end new ≡ None → IsOpenAs (has_open_file new) (files_open new.files.now)
  pub closed : EndsClosed (has_end new) (files_open new.files.now)
  pub full : has_end new ≡ None → has_open_file new
      ≡ last_file_has_room (plan_of new) (cleared_headers pass') (cleared_blocks pass')
  pub made : (outset : Outset) →
      FilesAreOf old outset (cleared_headers pass) (cleared_blocks pass) (seen old.files.now) →
      FilesAreOf new outset (cleared_headers pass') (cleared_blocks pass') (seen new.files.now)
  pub faults : CountsEnd (has_end new) (seen old.files.now) (seen new.files.now)
