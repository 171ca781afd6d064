-- Laws of recorded files; the functions of this crate carry them.
-- Source: PSRDADA manual (OBS_OFFSET, FILE_NUMBER, FILE_SIZE); the laws are this project's choice.
use Rattle.std.specs.Prelude.{◌≡◌, ◌≢◌, ℕ, ◌+◌, ◌^◌, ◌<◌, ◌≤◌, List, [], ◌∷◌, length, map, Option, Some, None, Ok, All, codes}
use Rattle.std.specs.List.{flat_map}
use Rattle.std.specs.Option.{option_map}
use Rattle.dada_model.specs.Fields.{fields_of, value_of}
use Rattle.dada_model.specs.Change.{IsWord, line_end, changed}
use Rattle.dada_model.specs.ChangeLaws.{IsReadBack}
use Rattle.dada_model.specs.Observation.{Observation, observation_of}
use Rattle.psr_base.specs.Fixed.{padded}
use Rattle.psr_base.specs.Made.{NamedBytes}
use Rattle.stream_model.specs.Walk.{FileStream, Whole, walk_stop, walk_data}
use Rattle.stream_model.specs.Blocks.{joined_data}
use Rattle.stream_model.specs.Recorded.{Recording, file_offset, with_offset, with_number, with_size, file_header, file_count, recorded_files, record_refusal}

-- ---- changes of texts

-- two texts have one length, both or neither end in a line feed, and what one of them has as the
-- value of a key is as wide as what the other has
pub record AreLikeTexts (one other : List ℕ) : Type 0 where
  pub lengths : length one ≡ length other
  pub ends : line_end one ≡ line_end other
  pub widths : (key : List ℕ) → option_map length (value_of key (fields_of one))
      ≡ option_map length (value_of key (fields_of other))

-- they stay so where a key gets values of one width
abbrev pub ChangesStayAlike : Type 0
ChangesStayAlike = (key first last one other : List ℕ) → IsWord key → IsWord first → IsWord last →
    length first ≡ length last → AreLikeTexts one other →
    AreLikeTexts (changed key first one) (changed key last other)

-- ---- headers

-- the numbers of file i are no wider than their fields
pub record HasNumbers (r : Recording) (i : ℕ) : Type 0 where
  pub offset : file_offset r i < 10 ^ 16
  pub number : i < 10 ^ 6
  pub size : r.file_size < 10 ^ 16

-- each change for file i leaves a text for which the header has room
pub record HeaderHasRoom (r : Recording) (i : ℕ) : Type 0 where
  pub offset : length (with_offset r i) < r.header.size
  pub number : length (with_number r i) < r.header.size
  pub size : length (with_size r i) < r.header.size

-- where nothing is refused, each file's header has room for its changes
abbrev pub EachHeaderHasRoom : Type 0
EachHeaderHasRoom = (r : Recording) (max_bytes i : ℕ) → record_refusal r max_bytes ≡ None →
    HasNumbers r i → HeaderHasRoom r i

-- the value of a key in the header of file i
abbrev pub value_in_file : Recording → ℕ → List ℕ → Option (List ℕ)
value_in_file r i key = value_of key (fields_of (file_header r i).text)

-- the header of file i is read back; it has its own offset, number and size, and else the values of
-- the transfer's
pub record KeepsValues (r : Recording) (i : ℕ) : Type 0 where
  pub is_read : IsReadBack (file_header r i)
  pub offset : value_in_file r i (codes "OBS_OFFSET") ≡ Some (padded 16 (file_offset r i))
  pub number : value_in_file r i (codes "FILE_NUMBER") ≡ Some (padded 6 i)
  pub size : value_in_file r i (codes "FILE_SIZE") ≡ Some (padded 16 r.file_size)
  pub others : (key : List ℕ) →
      key ≢ codes "OBS_OFFSET" → key ≢ codes "FILE_NUMBER" → key ≢ codes "FILE_SIZE" →
      value_in_file r i key ≡ value_of key (fields_of r.header.text)

abbrev pub HeadersKeepValues : Type 0
HeadersKeepValues = (r : Recording) (i : ℕ) → HasNumbers r i → HeaderHasRoom r i →
    IsReadBack r.header → KeepsValues r i

-- the header of file i has the observation of the transfer's, but for the offset of its first data
-- byte
abbrev pub HeadersKeepObservation : Type 0
HeadersKeepObservation = (r : Recording) (i : ℕ) (o : Observation) → HasNumbers r i →
    observation_of (fields_of r.header.text) ≡ Ok o → file_offset r i ≤ 10 ^ 15 →
    observation_of (fields_of (file_header r i).text)
    ≡ Ok (record o { obs_offset = file_offset r i })

-- ---- transfers

-- a transfer that is recorded
pub record RecordedTransfer : Type 0 where
  pub recording : Recording
  pub bytes : List ℕ

-- the files of transfers, in order
unfoldable pub recorded_of_transfers : List RecordedTransfer → List NamedBytes
recorded_of_transfers transfers =
    flat_map (λ transfer. recorded_files transfer.recording transfer.bytes) transfers

-- the numbers of the files with which transfers begin, the first of them with file `begin`
unfoldable pub recorded_starts : ℕ → List RecordedTransfer → List ℕ
recorded_starts begin [] = []
recorded_starts begin (transfer ∷ more) =
    begin ∷ recorded_starts (begin + file_count transfer.recording.file_size transfer.bytes) more

-- recorded files as the files of a stream, in the order in which they were created
abbrev pub stream_of_recorded : ℕ → List RecordedTransfer → FileStream
stream_of_recorded max_bytes transfers = record {
  files = map (λ file. file.bytes) (recorded_of_transfers transfers);
  starts = recorded_starts 0 transfers;
  max_bytes = max_bytes;
}

-- those of one transfer
abbrev pub stream_of_files : ℕ → RecordedTransfer → FileStream
stream_of_files max_bytes transfer = record {
  files = map (λ file. file.bytes) (recorded_files transfer.recording transfer.bytes);
  starts = 0 ∷ [];
  max_bytes = max_bytes;
}

-- the data of transfers
abbrev pub data_of_transfers : List RecordedTransfer → List (List ℕ)
data_of_transfers transfers = map (λ transfer. transfer.bytes) transfers

-- a transfer under an accepted header can be recorded within a limit of its data bytes
pub record CanBeRecorded (transfer : RecordedTransfer) : Type 0 where
  pub is_header : IsReadBack transfer.recording.header
  pub observation : Observation
  pub is_observation : observation_of (fields_of transfer.recording.header.text) ≡ Ok observation
  pub some : 0 < transfer.recording.file_size
  pub size : transfer.recording.file_size < 10 ^ 16
  pub limit : ℕ
  pub none_refused : record_refusal transfer.recording limit ≡ None
  pub few : length transfer.bytes ≤ limit
  pub offsets : transfer.recording.offset + length transfer.bytes ≤ 10 ^ 15

-- fed in order, the recorded files of a whole transfer are a whole stream with the same data
abbrev pub RecordedFilesGiveTheData : Type 0
RecordedFilesGiveTheData = (max_bytes : ℕ) (transfer : RecordedTransfer) → CanBeRecorded transfer →
    length transfer.bytes ≤ max_bytes →
    (walk_stop (stream_of_files max_bytes transfer) ≡ Whole)
    × (walk_data (stream_of_files max_bytes transfer) ≡ transfer.bytes ∷ [])

-- those of several whole transfers are a whole stream with the data of each
abbrev pub RecordedTransfersGiveTheData : Type 0
RecordedTransfersGiveTheData = (max_bytes : ℕ) (transfers : List RecordedTransfer) →
    All CanBeRecorded transfers → length (joined_data (data_of_transfers transfers)) ≤ max_bytes →
    (walk_stop (stream_of_recorded max_bytes transfers) ≡ Whole)
    × (walk_data (stream_of_recorded max_bytes transfers) ≡ data_of_transfers transfers)
