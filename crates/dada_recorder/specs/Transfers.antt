-- Where a recorder is in its transfers.
-- Source: this project's profile.
use Rattle.std.specs.Prelude.{◌≡◌, ◌≢◌, ℕ, ◌*◌, ◌^◌, ◌≤◌, true, false, List, [], ◌∷◌, ◌++◌, length, map, slice_get, Option, Some, None}
use Rattle.std.specs.List.{range_with_len}
use Rattle.psr_base.specs.Count.{Rose}
use Rattle.psr_base.specs.Made.{NamedBytes, FilesSeen}
use Rattle.ring_blocks.specs.declared.Entry.{Entry}
use Rattle.stream_model.specs.Blocks.{joined_bytes, ended_transfers, transfer_bytes}
use Rattle.stream_model.specs.RecordedLaws.{recorded_of_transfers}
use Rattle.dada_recorder.specs.declared.answers.RecordEnd.{RecordEnd}
use Rattle.dada_recorder.specs.declared.answers.RecordEnd.TheVariants.{FileFault}
use Rattle.dada_recorder.specs.declared.transfers.Transfers.{Transfers}
use Rattle.dada_recorder.specs.Blocks.{RecordPlan, record_plan, PlanInRange, header_in_block, under_header, transfer_at}
use Rattle.dada_recorder.specs.TransferFiles.{recording_in, CanRecord, data_bytes, IsPlaced}
use Rattle.dada_recorder.specs.Recording.{GoesOn, EndIs}

abbrev pub plan_in : Transfers → RecordPlan
plan_in t = record_plan t.offsets.now t.files.file_size t.max_bytes

-- the files of the first n transfers
unfoldable pub files_of_first : RecordPlan → List Entry → List Entry → ℕ → List NamedBytes
files_of_first plan headers blocks n =
    recorded_of_transfers (map (transfer_at plan headers blocks) (range_with_len 0 n))

-- it is in the files of the transfer whose header was read, and these bytes came
pub record IsWithin (t : Transfers) (headers : List Entry) (bytes : List ℕ) : Type 0 where
  pub recording : recording_in t.files
      ≡ under_header (plan_in t) t.ended (header_in_block (slice_get headers t.ended))
  pub can : CanRecord (recording_in t.files) t.max_bytes
  pub placed : IsPlaced t.files.place t.files.file_size
  pub count : length bytes ≡ data_bytes t.files.place t.files.file_size

-- The recorder goes on, and this is where it is.
pub record IsRunning (t : Transfers) (headers blocks : List Entry) : Type 0 where
  pub plan : PlanInRange (plan_in t)
  pub goes_on : GoesOn (plan_in t) t.has_header headers blocks
  pub ended : t.ended ≡ ended_transfers blocks
  pub total : t.total ≡ length (joined_bytes blocks)
  pub finished : t.finished ≡ length (files_of_first (plan_in t) headers blocks t.ended)
  pub few : t.finished ≤ t.ended * 10 ^ 6
  pub within : t.has_header ≡ true → IsWithin t headers (transfer_bytes t.ended blocks)
  pub between : t.has_header ≡ false → t.files.place.is_open ≡ false

-- the bytes of one block more are in files, and its mark is not yet looked at
pub record HasAppended (t : Transfers) (headers blocks : List Entry) (block : Entry) : Type 0 where
  pub plan : PlanInRange (plan_in t)
  pub goes_on : GoesOn (plan_in t) true headers blocks
  pub has_header : t.has_header ≡ true
  pub ended : t.ended ≡ ended_transfers blocks
  pub total : t.total ≡ length (joined_bytes (blocks ++ block ∷ []))
  pub limit : t.total ≤ t.max_bytes
  pub finished : t.finished ≡ length (files_of_first (plan_in t) headers blocks t.ended)
  pub few : t.finished ≤ t.ended * 10 ^ 6
  pub within : IsWithin t headers (transfer_bytes t.ended blocks ++ block.bytes)

-- some blocks were cleared, after which it goes on
pub record RunsOn (t : Transfers) : Type 0 where
  pub headers : List Entry
  pub blocks : List Entry
  pub running : IsRunning t headers blocks

-- a block came to those that were cleared: it goes on, or it ended
abbrev pub StandsAt : Transfers → List Entry → List Entry → Option RecordEnd → Type 0
StandsAt t headers blocks None = IsRunning t headers blocks
StandsAt t headers blocks (Some end) = EndIs (plan_in t) t.has_header headers blocks (Some end)

-- it is in the same transfer as before, for the same plan
pub record IsInSameTransfer (old new : Transfers) : Type 0 where
  pub plan : plan_in new ≡ plan_in old
  pub ended : new.ended ≡ old.ended
  pub has_header : new.has_header ≡ old.has_header

-- no file is open at an end, unless a call on the files failed
abbrev pub EndsClosed : Option RecordEnd → Type 0 → Type 0
EndsClosed None is_open = Unit {0}
EndsClosed (Some FileFault) is_open = Unit {0}
EndsClosed (Some end) is_open = ¬ is_open

-- a call failed where it ended by a fault, and else none did
pub record CountsEnd (end : Option RecordEnd) (old new : FilesSeen) : Type 0 where
  pub failed : end ≡ Some FileFault → Rose old.faults new.faults
  pub quiet : end ≢ Some FileFault → new.faults ≡ old.faults
  pub count : old.faults ≤ new.faults
