-- Where in the files of a transfer its data have come to.
-- Source: this project's profile.
use Rattle.std.specs.Prelude.{◌≡◌, ℕ, ◌+◌, ◌*◌, ◌^◌, ◌<◌, ◌≤◌, nat_lt, Bool, true, if◌then◌else◌, List, ◌++◌, length, take, map, None, Result, IfOk, OnErr}
use Rattle.std.specs.List.{range_with_len}
use Rattle.psr_base.specs.Made.{NamedBytes, FilesSeen}
use Rattle.dada_model.specs.Fields.{header_bytes}
use Rattle.stream_model.specs.Recorded.{Recording, file_header, file_name, recorded_file, recorded_files, record_refusal}
use Rattle.dada_recorder.specs.Making.{Outset, HasMade, IsFileFront, BreaksOff}
use Rattle.dada_recorder.specs.declared.transfer_files.FilePlace.{FilePlace}
use Rattle.dada_recorder.specs.declared.transfer_files.TransferFiles.{TransferFiles}

-- what a transfer is recorded as
abbrev pub recording_in : TransferFiles → Recording
recording_in t = record { header = t.header; offset = t.offset; file_size = t.file_size }

-- nothing stands against the recording of at most so many bytes
pub record CanRecord (r : Recording) (max_bytes : ℕ) : Type 0 where
  pub some : 1 ≤ r.file_size
  pub most : r.file_size ≤ 2 ^ 40
  pub offset : r.offset ≤ 10 ^ 15
  pub few : max_bytes ≤ 2 ^ 48
  pub none_refused : record_refusal r max_bytes ≡ None

-- a file with its header and no data
abbrev pub header_file : Recording → ℕ → NamedBytes
header_file r i = record { name = file_name r i; bytes = header_bytes (file_header r i) }

-- the first n files of some data
unfoldable pub first_files : Recording → List ℕ → ℕ → List NamedBytes
first_files r bytes n = map (recorded_file r bytes) (range_with_len 0 n)

-- more bytes behind those of a file
abbrev pub longer_file : List ℕ → NamedBytes → NamedBytes
longer_file bytes file = record file { bytes = file.bytes ++ bytes }

-- so many bytes came to a file that is open; it is finished where it is full
abbrev pub after_put : ℕ → ℕ → FilePlace → FilePlace
after_put file_size n place =
    record place { used = place.used + n; is_open = nat_lt (place.used + n) file_size }

-- so many data bytes came to files up to this place
abbrev pub data_bytes : FilePlace → ℕ → ℕ
data_bytes place file_size = place.number * file_size + place.used

-- the file that was begun last has some data, unless there are none, and is open exactly while it
-- isn't full
pub record IsPlaced (place : FilePlace) (file_size : ℕ) : Type 0 where
  pub within : place.used ≤ file_size
  pub tight : place.used ≡ 0 → place.number ≡ 0
  pub open_exactly : place.is_open ≡ nat_lt place.used file_size

-- so many data bytes are within a limit under which a transfer can be recorded
pub record IsWithinLimit (r : Recording) (bytes : ℕ) : Type 0 where
  pub limit : ℕ
  pub can : CanRecord r limit
  pub few : bytes ≤ limit

-- the file that is written next: the open one, or else the next one, which is begun
abbrev pub next_place : FilePlace → FilePlace
next_place place =
    if place.is_open then place else record { number = place.number + 1; used = 0; is_open = true }

-- n of some bytes came, at least one
pub record CameOf (old new : TransferFiles) (bytes : List ℕ) (n : ℕ) : Type 0 where
  pub some : 0 < n
  pub within : n ≤ length bytes
  pub count : data_bytes new.place new.file_size ≡ data_bytes old.place old.file_size + n

-- A front of some bytes came to the files of the data before them; or a call failed on the way to
-- all of them.
pub record TakesFront {E : Type 0} (r : Recording) (before : List NamedBytes) (xs ys : List ℕ)
    (was_open is_open : Bool) (old new : FilesSeen) (result : Result ℕ E) : Type 0 where
  pub all : (outset : Outset) → HasMade outset was_open (before ++ recorded_files r xs) old →
      IfOk result (λ n. HasMade outset is_open (before ++ recorded_files r (xs ++ take n ys)) new)
  pub front : (outset : Outset) (all : List NamedBytes) →
      HasMade outset was_open (before ++ recorded_files r xs) old →
      IsFileFront (before ++ recorded_files r (xs ++ ys)) all →
      OnErr result (BreaksOff outset all new)
