-- Laws of what runs record; functions of this crate carry them.
-- Source: PSRDADA manual (dada_dbdisk); the laws are this project's choice.
use Rattle.std.specs.Prelude.{◌≡◌, ℕ, ◌+◌, ◌<◌, List, length, take, slice_get, slice_index_or, Some, Ok}
use Rattle.dada_model.specs.Fields.{HeaderText, header_of}
use Rattle.dada_model.specs.ChangeLaws.{IsReadBack}
use Rattle.ring_blocks.specs.declared.Entry.{Entry}
use Rattle.stream_model.specs.Blocks.{ended_transfers}
use Rattle.stream_model.specs.Walk.{FileStream, Whole, walk_stop, walk_stream}
use Rattle.disk_feeder.specs.Feeding.{header_entries}
use Rattle.dada_recorder.specs.Blocks.{RecordPlan, files_of_blocks}
use Rattle.run_outcome.specs.Firsts.{first_file}
use Rattle.run_outcome.specs.Runs.{first_observation}
use Rattle.run_outcome.specs.Outcomes.{files_of_data, files_of_stream}

-- these are the first headers of the transfers, and each is recorded from its own OBS_OFFSET on
pub record RecordsFirsts (plan : RecordPlan) (w : FileStream) (headers : List HeaderText) :
    Type 0 where
  pub count : length headers ≡ length w.starts
  pub read : (k : ℕ) (header : HeaderText) → slice_get headers k ≡ Some header →
      header_of (first_file w k) ≡ Ok header
  pub read_back : (k : ℕ) (header : HeaderText) → slice_get headers k ≡ Some header →
      IsReadBack header
  pub offsets : (k : ℕ) → k < length w.starts →
      slice_index_or plan.offsets k 0 ≡ (first_observation w k).obs_offset

-- what is recorded of blocks, under the headers of the transfers that began, are the files of the
-- run
abbrev pub RunsRecordBlocks : Type 0
RunsRecordBlocks = (plan : RecordPlan) (w : FileStream) (headers : List HeaderText)
    (blocks : List Entry) → RecordsFirsts plan w headers →
    files_of_blocks plan (header_entries (take (ended_transfers blocks + 1) headers)) blocks
    ≡ files_of_stream w plan.file_size blocks

-- where the walk is whole, the files of the run are those of all data
abbrev pub WholeRunsRecordData : Type 0
WholeRunsRecordData = (size file_size : ℕ) (w : FileStream) → walk_stop w ≡ Whole →
    files_of_stream w file_size (walk_stream size w) ≡ files_of_data w file_size
