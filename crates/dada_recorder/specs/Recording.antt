-- What a recorder stands for: the blocks that its pass cleared of both rings.
-- Source: this project's profile.
use Rattle.std.specs.Prelude.{◌≡◌, ℕ, ◌+◌, ◌-◌, ◌<◌, ◌≤◌, nat_lt, ◌&&◌, ◌⊎◌, Bool, true, false, if◌then◌else◌, List, [], ◌∷◌, ◌++◌, length, Option, Some, None}
use Rattle.psr_base.specs.Made.{NamedBytes, FilesSeen}
use Rattle.ring_blocks.specs.declared.Entry.{Entry}
use Rattle.stream_model.specs.Blocks.{joined_bytes, ended_transfers, has_cut, transfer_bytes}
use Rattle.stream_model.specs.Recorded.{file_count, file_data}
use Rattle.dada_recorder.specs.declared.answers.RecordFault.{RecordFault}
use Rattle.dada_recorder.specs.declared.answers.RecordEnd.{RecordEnd}
use Rattle.dada_recorder.specs.declared.answers.RecordEnd.TheVariants.{Whole, Cut, FileFault, BadHeader, TooLong}
use Rattle.dada_recorder.specs.Making.{Outset, HasMade, BreaksOff, IsFileFront}
use Rattle.dada_recorder.specs.Blocks.{RecordPlan, files_of_blocks, RefusesBlock, AcceptsAll}

-- ---- the end that the blocks give

-- each header block was accepted, and the data blocks hold no more bytes than the limit
pub record AreInLimits (plan : RecordPlan) (headers blocks : List Entry) : Type 0 where
  pub accepted : AcceptsAll plan headers
  pub limit : length (joined_bytes blocks) ≤ plan.max_bytes

-- more are to come: not all transfers have ended, the stream wasn't given up, and the header of the
-- transfer that is next is read, or is to be read
pub record GoesOn (plan : RecordPlan) (has_header : Bool) (headers blocks : List Entry) :
    Type 0 where
  pub in_limits : AreInLimits plan headers blocks
  pub more : ended_transfers blocks < length plan.offsets
  pub uncut : has_cut blocks ≡ false
  pub begun : length headers ≡ ended_transfers blocks + (if has_header then 1 else 0)
  pub between : has_header ≡ false → transfer_bytes (ended_transfers blocks) blocks ≡ []

-- all transfers have ended, with so many files
pub record IsWhole (plan : RecordPlan) (headers blocks : List Entry) (files : ℕ) : Type 0 where
  pub in_limits : AreInLimits plan headers blocks
  pub all : ended_transfers blocks ≡ length plan.offsets
  pub uncut : has_cut blocks ≡ false
  pub begun : length headers ≡ length plan.offsets
  pub count : files ≡ length (files_of_blocks plan headers blocks)

-- the stream was given up (a Cut came), after so many files
pub record IsGivenUp (plan : RecordPlan) (headers blocks : List Entry) (files : ℕ) : Type 0 where
  pub in_limits : AreInLimits plan headers blocks
  pub more : ended_transfers blocks < length plan.offsets
  pub cut : has_cut blocks ≡ true
  pub begun : length headers ≡ ended_transfers blocks + 1
  pub count : files ≡ length (files_of_blocks plan headers blocks)

-- the last header block is refused
pub record IsRefusedAt (plan : RecordPlan) (headers blocks : List Entry) (why : RecordFault) :
    Type 0 where
  pub before : List Entry
  pub last : Entry
  pub headers_are : headers ≡ before ++ last ∷ []
  pub in_limits : AreInLimits plan before blocks
  pub refused : RefusesBlock plan (length before) last.bytes why

-- with the last data block there are too many bytes
pub record IsTooLong (plan : RecordPlan) (headers blocks : List Entry) (limit : ℕ) : Type 0 where
  pub accepted : AcceptsAll plan headers
  pub before : List Entry
  pub last : Entry
  pub blocks_are : blocks ≡ before ++ last ∷ []
  pub few : length (joined_bytes before) ≤ plan.max_bytes
  pub many : plan.max_bytes < length (joined_bytes blocks)
  pub limit_is : limit ≡ plan.max_bytes

-- a call on the files failed: for a block that is recorded, or at the end of the last file where there are too many
-- bytes
pub record IsBrokenOff (plan : RecordPlan) (headers blocks : List Entry) : Type 0 where
  pub limits : AreInLimits plan headers blocks ⊎ IsTooLong plan headers blocks plan.max_bytes
  pub begun : length headers ≤ ended_transfers blocks + 1

-- Where a recorder that cleared these blocks is: it goes on, or why it ended. A fault of the files
-- may come at any block.
abbrev pub EndIs : RecordPlan → Bool → List Entry → List Entry → Option RecordEnd → Type 0
EndIs plan has_header headers blocks None = GoesOn plan has_header headers blocks
EndIs plan has_header headers blocks (Some (Whole files)) = IsWhole plan headers blocks files
EndIs plan has_header headers blocks (Some (Cut files)) = IsGivenUp plan headers blocks files
EndIs plan has_header headers blocks (Some FileFault) = IsBrokenOff plan headers blocks
EndIs plan has_header headers blocks (Some (BadHeader fault)) =
    IsRefusedAt plan headers blocks fault
EndIs plan has_header headers blocks (Some (TooLong limit)) = IsTooLong plan headers blocks limit

-- ---- the files that were made

-- how many data bytes the last file has of a transfer's data
abbrev pub last_used : ℕ → List ℕ → ℕ
last_used file_size bytes = length (file_data file_size bytes (file_count file_size bytes - 1))

-- whether the last file of these blocks has room: its transfer has not ended, and it has fewer data
-- bytes than a file may have
unfoldable pub last_file_has_room : RecordPlan → List Entry → List Entry → Bool
last_file_has_room plan headers blocks =
    nat_lt (ended_transfers blocks) (length headers)
    && nat_lt (last_used plan.file_size (transfer_bytes (ended_transfers blocks) blocks))
    plan.file_size

-- the files of the blocks without the last one are there
pub record LacksHeader (plan : RecordPlan) (outset : Outset) (headers blocks : List Entry)
    (seen : FilesSeen) : Type 0 where
  pub before : List Entry
  pub last : Entry
  pub headers_are : headers ≡ before ++ last ∷ []
  pub made : HasMade outset false (files_of_blocks plan before blocks) seen

pub record LacksBlock (plan : RecordPlan) (outset : Outset) (headers blocks : List Entry)
    (seen : FilesSeen) : Type 0 where
  pub before : List Entry
  pub last : Entry
  pub blocks_are : blocks ≡ before ++ last ∷ []
  pub made : HasMade outset false (files_of_blocks plan headers before) seen

-- What the files tell since the outset: the files of the blocks, all of them finished at an end. At a fault it is a
-- front of any files that those are a front of. A header block that is refused, and a data block that passes the limit,
-- left nothing.
abbrev pub FilesAre : RecordPlan → Outset → Bool → List Entry → List Entry → Option RecordEnd →
    FilesSeen → Type 0
FilesAre plan outset is_open headers blocks None seen =
    HasMade outset is_open (files_of_blocks plan headers blocks) seen
FilesAre plan outset is_open headers blocks (Some (Whole files)) seen =
    HasMade outset false (files_of_blocks plan headers blocks) seen
FilesAre plan outset is_open headers blocks (Some (Cut files)) seen =
    HasMade outset false (files_of_blocks plan headers blocks) seen
FilesAre plan outset is_open headers blocks (Some FileFault) seen =
    (all : List NamedBytes) → IsFileFront (files_of_blocks plan headers blocks) all →
    BreaksOff outset all seen
FilesAre plan outset is_open headers blocks (Some (BadHeader fault)) seen =
    LacksHeader plan outset headers blocks seen
FilesAre plan outset is_open headers blocks (Some (TooLong limit)) seen =
    LacksBlock plan outset headers blocks seen
