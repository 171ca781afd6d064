-- Laws of the walk of the files; the functions of this crate carry them.
-- Source: PSRDADA manual (transfers, OBS_OFFSET); that files follow without a gap is this project's choice.
use Rattle.std.specs.Prelude.{◌≡◌, ℕ, ◌+◌, ◌<◌, ◌≤◌, ◌↔◌, List, [], ◌∷◌, ◌++◌, length, take, slice_index_or, Some, None, Ok}
use Rattle.dada_model.specs.Fields.{Field, HeaderText, header_of, fields_of}
use Rattle.dada_model.specs.Observation.{Observation, observation_of}
use Rattle.obs_plan.specs.Later.{profile_of, later_offset_of}
use Rattle.stream_model.specs.Blocks.{joined_data}
use Rattle.stream_model.specs.Walk.{FileStream, WalkStop, Whole, data_of, data_between, file_at, begin_of, transfer_of, transfer_data, walk_data, observation_at, header_stop, stop_at, walk_stop}

-- ---- conditions

-- transfers begin with these files, of so many: the first with file 0, each with a later one than the one before
pub record AreStarts (starts : List ℕ) (count : ℕ) : Type 0 where
  pub some : 0 < length starts
  pub first : slice_index_or starts 0 count ≡ 0
  pub rise : (i : ℕ) → i + 1 < length starts →
      slice_index_or starts i count < slice_index_or starts (i + 1) count
  pub within : (i : ℕ) → i < length starts → slice_index_or starts i count < count

-- a file has a header, and that an observation
pub record IsAccepted (file : List ℕ) : Type 0 where
  pub header : HeaderText
  pub observation : Observation
  pub is_header : header_of file ≡ Ok header
  pub is_observation : observation_of (fields_of header.text) ≡ Ok observation

-- what a walk asks of files: they are parted into transfers, and the first file of each transfer is accepted
pub record AreWalked (s : FileStream) : Type 0 where
  pub starts : AreStarts s.starts (length s.files)
  pub accepted : (transfer : ℕ) → transfer < length s.starts →
      IsAccepted (file_at s (begin_of s transfer))

-- file k is one of the transfer
pub record IsIn (s : FileStream) (transfer k : ℕ) : Type 0 where
  pub there : transfer < length s.starts
  pub from : begin_of s transfer ≤ k
  pub before : k < begin_of s (transfer + 1)

-- ---- laws

-- file k goes on where the files before it in its transfer ended: it has a header with the values of the first one, and
-- its OBS_OFFSET is that of the first one and the data bytes since
pub record Continues (s : FileStream) (transfer k : ℕ) : Type 0 where
  pub header : HeaderText
  pub is_header : header_of (file_at s k) ≡ Ok header
  pub goes_on :
      let first = observation_at (file_at s (begin_of s transfer)) in
      later_offset_of (profile_of first) (fields_of header.text)
      ≡ Ok (first.obs_offset + length (data_between s.files (begin_of s transfer) k))

-- a header stops no walk exactly where its file continues its transfer
abbrev pub HeadersContinue : Type 0
HeadersContinue =
    (s : FileStream) (transfer k : ℕ) → AreStarts s.starts (length s.files) → IsIn s transfer k →
    (header_stop s k ≡ None) ↔ Continues s transfer k

-- an accepted header is that of a later file of its own observation, at its own offset
abbrev pub AcceptedIsLater : Type 0
AcceptedIsLater = (fields : List Field) (o : Observation) → observation_of fields ≡ Ok o →
    later_offset_of (profile_of o) fields ≡ Ok o.obs_offset

-- the first file of a transfer continues it
abbrev pub FirstFilesContinue : Type 0
FirstFilesContinue = (s : FileStream) (transfer : ℕ) → AreWalked s → transfer < length s.starts →
    header_stop s (begin_of s transfer) ≡ None

-- a walk is whole exactly where no header stops it and the data of all files are within the limit
abbrev pub WholeExactly : Type 0
WholeExactly = (s : FileStream) → (walk_stop s ≡ Whole)
    ↔ (((k : ℕ) → k < length s.files → header_stop s k ≡ None)
    × (length (data_between s.files 0 (length s.files)) ≤ s.max_bytes))

-- a walk stops at the first file that stops it
abbrev pub FirstStopCounts : Type 0
FirstStopCounts =
    (s : FileStream) (k : ℕ) (stop : WalkStop) → ((j : ℕ) → j < k → stop_at s j ≡ None) →
    k < length s.files → stop_at s k ≡ Some stop → walk_stop s ≡ stop

-- where no file does, the walk is whole
abbrev pub NoStopIsWhole : Type 0
NoStopIsWhole =
    (s : FileStream) → ((k : ℕ) → k < length s.files → stop_at s k ≡ None) → walk_stop s ≡ Whole

-- a file from the first to the last of a transfer is in that transfer
abbrev pub FilesAreInTransfers : Type 0
FilesAreInTransfers =
    (s : FileStream) (transfer k : ℕ) → AreStarts s.starts (length s.files) → IsIn s transfer k →
    transfer_of s.starts k ≡ transfer

-- the data of one file more
abbrev pub DataGrow : Type 0
DataGrow = (files : List (List ℕ)) (from k : ℕ) → from ≤ k → k < length files →
    data_between files from (k + 1)
    ≡ data_between files from k ++ data_of (slice_index_or files k [])

-- the data of some files and those of the files after them
abbrev pub DataJoin : Type 0
DataJoin = (files : List (List ℕ)) (from mid to : ℕ) → from ≤ mid → from ≤ length files → mid ≤ to →
    data_between files from mid ++ data_between files mid to ≡ data_between files from to

-- where there are no files, there are no data
abbrev pub DataNone : Type 0
DataNone = (files : List (List ℕ)) (k : ℕ) → data_between files k k ≡ []

-- the data of the transfers before, and of the files of a transfer up to one of them, are those of all files before it
abbrev pub TransfersJoin : Type 0
TransfersJoin =
    (s : FileStream) (transfer k : ℕ) → AreStarts s.starts (length s.files) →
    transfer ≤ length s.starts → begin_of s transfer ≤ k →
    joined_data (take transfer (walk_data s)) ++ data_between s.files (begin_of s transfer) k
    ≡ data_between s.files 0 k

-- the data of all transfers, joined, are the data of all files in order
abbrev pub WalkJoinsData : Type 0
WalkJoinsData = (s : FileStream) → AreStarts s.starts (length s.files) →
    joined_data (walk_data s) ≡ data_between s.files 0 (length s.files)

-- the data of one transfer more
abbrev pub OneTransferMore : Type 0
OneTransferMore = (s : FileStream) (transfer : ℕ) → transfer < length s.starts →
    take (transfer + 1) (walk_data s) ≡ take transfer (walk_data s) ++ transfer_data s transfer ∷ []
