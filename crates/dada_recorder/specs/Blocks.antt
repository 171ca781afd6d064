-- What is recorded of the blocks of a header ring and of a data ring.
-- Source: PSRDADA manual (a header block describes a transfer); what is refused is this project's
-- profile.
use Rattle.std.specs.Prelude.{◌≡◌, ℕ, ◌^◌, ◌≤◌, All, List, [], length, map, slice_get, slice_index_or, Option, Some, None, Result, Ok, Err}
use Rattle.std.specs.List.{range_with_len}
use Rattle.psr_base.specs.Made.{NamedBytes}
use Rattle.dada_model.specs.Fields.{HeaderText, HeaderRefusal, header_of}
use Rattle.dada_header.specs.Faults.{IsHeaderRefusal}
use Rattle.ring_blocks.specs.declared.Entry.{Entry}
use Rattle.stream_model.specs.Blocks.{transfer_bytes}
use Rattle.stream_model.specs.Recorded.{Recording, record_refusal}
use Rattle.stream_model.specs.RecordedLaws.{RecordedTransfer, recorded_of_transfers}
use Rattle.dada_recorder.specs.declared.answers.RecordFault.{RecordFault}
use Rattle.dada_recorder.specs.declared.answers.RecordFault.TheVariants.{NotHeader, NoUtc, BadUtc, Overfull, TooManyFiles}
use Rattle.dada_recorder.specs.Changes.{recording, RefusesRecording}

-- the OBS_OFFSET of each transfer's first data byte; the most data bytes of a file, and of all
-- transfers together
pub record RecordPlan : Type 0 where
  pub offsets : List ℕ
  pub file_size : ℕ
  pub max_bytes : ℕ

abbrev pub record_plan : List ℕ → ℕ → ℕ → RecordPlan
record_plan offsets file_size max_bytes =
    record { offsets = offsets; file_size = file_size; max_bytes = max_bytes }

-- what a recorder may be opened for
pub record PlanInRange (plan : RecordPlan) : Type 0 where
  pub some : 1 ≤ length plan.offsets
  pub transfers : length plan.offsets ≤ 8
  pub offsets : All (λ offset. offset ≤ 10 ^ 15) plan.offsets
  pub file_size : (1 ≤ plan.file_size) × (plan.file_size ≤ 2 ^ 40)
  pub limit : plan.max_bytes ≤ 2 ^ 48

-- ---- the files of blocks

-- nothing is recorded under a header that is refused: what stands here for it is never used
abbrev pub header_or_none : Result HeaderText HeaderRefusal → HeaderText
header_or_none (Ok header) = header
header_or_none (Err refusal) = record { size = 0; text = [] }

abbrev pub header_in_block : Option Entry → HeaderText
header_in_block (Some block) = header_or_none (header_of block.bytes)
header_in_block None = record { size = 0; text = [] }

-- transfer k under a header
abbrev pub under_header : RecordPlan → ℕ → HeaderText → Recording
under_header plan k header = recording header (slice_index_or plan.offsets k 0) plan.file_size

-- transfer k under the header in the header block of its number, with the bytes that the data
-- blocks have of it
abbrev pub transfer_at : RecordPlan → List Entry → List Entry → ℕ → RecordedTransfer
transfer_at plan headers blocks k = record {
  recording = under_header plan k (header_in_block (slice_get headers k));
  bytes = transfer_bytes k blocks;
}

-- the files of the transfers that have these header blocks
unfoldable pub files_of_blocks : RecordPlan → List Entry → List Entry → List NamedBytes
files_of_blocks plan headers blocks =
    recorded_of_transfers
    (map (transfer_at plan headers blocks) (range_with_len 0 (length headers)))

-- ---- refusals

-- bytes have a header under which nothing can be recorded
pub record RefusesHeader (offset file_size max_bytes : ℕ) (bytes : List ℕ) (fault : RecordFault) :
    Type 0 where
  pub header : HeaderText
  pub read : header_of bytes ≡ Ok header
  pub why : RefusesRecording (recording header offset file_size) max_bytes fault

-- why a header block is refused: the bytes have no header, or one under which nothing can be
-- recorded
abbrev pub RefusesBytes : ℕ → ℕ → ℕ → List ℕ → RecordFault → Type 0
RefusesBytes offset file_size max_bytes bytes (NotHeader fault) = IsHeaderRefusal bytes fault
RefusesBytes offset file_size max_bytes bytes NoUtc =
    RefusesHeader offset file_size max_bytes bytes NoUtc
RefusesBytes offset file_size max_bytes bytes BadUtc =
    RefusesHeader offset file_size max_bytes bytes BadUtc
RefusesBytes offset file_size max_bytes bytes (Overfull need size) =
    RefusesHeader offset file_size max_bytes bytes (Overfull need size)
RefusesBytes offset file_size max_bytes bytes TooManyFiles =
    RefusesHeader offset file_size max_bytes bytes TooManyFiles

-- why the header block of transfer k is
abbrev pub RefusesBlock : RecordPlan → ℕ → List ℕ → RecordFault → Type 0
RefusesBlock plan k bytes fault =
    RefusesBytes (slice_index_or plan.offsets k 0) plan.file_size plan.max_bytes bytes fault

-- the header block of transfer k is accepted
pub record AcceptsBlock (plan : RecordPlan) (k : ℕ) (bytes : List ℕ) : Type 0 where
  pub header : HeaderText
  pub read : header_of bytes ≡ Ok header
  pub accepted : record_refusal (under_header plan k header) plan.max_bytes ≡ None

-- and so are the header blocks of all transfers that have some
abbrev pub AcceptsAll : RecordPlan → List Entry → Type 0
AcceptsAll plan headers = (k : ℕ) (block : Entry) → slice_get headers k ≡ Some block →
    AcceptsBlock plan k block.bytes
