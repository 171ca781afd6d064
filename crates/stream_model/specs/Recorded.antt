-- Recorded files: the data of a transfer in files again, each with the transfer's header for itself (PSRDADA manual:
-- dada_dbdisk, OBS_OFFSET, FILE_NUMBER, FILE_SIZE; the fixed widths and the names are this project's profile).
use Rattle.std.specs.Prelude.{ℕ, Bool, true, false, ◌&&◌, nat_lt, nat_le, ◌==◌, ◌+◌, ◌-◌, ◌*◌, ◌/◌, if◌then◌else◌, List, [], ◌∷◌, ◌++◌, length, take, drop, map, Option, None, Some, unwrap_or, codes}
use Rattle.std.specs.List.{range_with_len}
use Rattle.dada_model.specs.Change.{changed}
use Rattle.dada_model.specs.Fields.{HeaderText, fields_of, value_of, header_bytes}
use Rattle.psr_base.specs.Fixed.{padded}
use Rattle.psr_base.specs.Made.{NamedBytes}

-- ---- texts

-- a byte stands where a form has this character: any digit for a 0, and else the character itself
abbrev pub stands_for : ℕ → ℕ → Bool
stands_for form byte = if form == 48 then nat_le 48 byte && nat_le byte 57 else byte == form

abbrev pub has_form : List ℕ → List ℕ → Bool
has_form [] [] = true
has_form [] (byte ∷ bytes) = false
has_form (letter ∷ form) [] = false
has_form (letter ∷ form) (byte ∷ bytes) = stands_for letter byte && has_form form bytes

-- a time in UTC as a header has it; what its digits say is not judged
unfoldable pub is_time : List ℕ → Bool
is_time text = has_form (codes "0000-00-00-00:00:00") text

-- ---- files

-- what is recorded: the header of the transfer, the OBS_OFFSET of its first data byte, and the most data bytes of a
-- file
pub record Recording : Type 0 where
  pub header : HeaderText
  pub offset : ℕ
  pub file_size : ℕ

-- the OBS_OFFSET of file i, from 0 on
abbrev pub file_offset : Recording → ℕ → ℕ
file_offset r i = r.offset + i * r.file_size

-- the changes of the header's text for file i, one after another
abbrev pub with_offset : Recording → ℕ → List ℕ
with_offset r i = changed (codes "OBS_OFFSET") (padded 16 (file_offset r i)) r.header.text

abbrev pub with_number : Recording → ℕ → List ℕ
with_number r i = changed (codes "FILE_NUMBER") (padded 6 i) (with_offset r i)

abbrev pub with_size : Recording → ℕ → List ℕ
with_size r i = changed (codes "FILE_SIZE") (padded 16 r.file_size) (with_number r i)

unfoldable pub file_header : Recording → ℕ → HeaderText
file_header r i = record { size = r.header.size; text = with_size r i }

-- when the transfer began
abbrev pub start_time : HeaderText → Option (List ℕ)
start_time header = value_of (codes "UTC_START") (fields_of header.text)

-- 95 is '_', 46 is '.'
unfoldable pub file_name : Recording → ℕ → List ℕ
file_name r i =
    unwrap_or (start_time r.header) []
    ++ (95 ∷ (padded 16 (file_offset r i) ++ (46 ∷ (padded 6 i ++ codes ".dada"))))

-- the data of file i
unfoldable pub file_data : ℕ → List ℕ → ℕ → List ℕ
file_data file_size bytes i = take file_size (drop (i * file_size) bytes)

-- how many files there are: one where there are no data, and none after the last that has some
unfoldable pub file_count : ℕ → List ℕ → ℕ
file_count file_size bytes = (length bytes - 1) / file_size + 1

unfoldable pub recorded_file : Recording → List ℕ → ℕ → NamedBytes
recorded_file r bytes i = record {
  name = file_name r i;
  bytes = header_bytes (file_header r i) ++ file_data r.file_size bytes i;
}

-- the files of a transfer's data, in order
unfoldable pub recorded_files : Recording → List ℕ → List NamedBytes
recorded_files r bytes =
    map (recorded_file r bytes) (range_with_len 0 (file_count r.file_size bytes))

-- ---- what can't be recorded

-- why: no UTC_START, or one that is no time; a change that leaves a text of this length (first) for which a header of
-- this size (second) has no room; more files than numbers of six digits
pub data RecordRefusal : Type 0 where
  NoTime : RecordRefusal
  BadTime : RecordRefusal
  NoRoom : ℕ → ℕ → RecordRefusal
  TooManyFiles : RecordRefusal

abbrev pub time_refusal : Option (List ℕ) → Option RecordRefusal
time_refusal None = Some NoTime
time_refusal (Some text) = if is_time text then None else Some BadTime

-- the text fits where it is shorter than the header
abbrev pub room_refusal : ℕ → List ℕ → Option RecordRefusal
room_refusal size text =
    if nat_lt (length text) size then None else Some (NoRoom (length text) size)

abbrev pub number_refusal : ℕ → ℕ → Option RecordRefusal
number_refusal file_size max_bytes =
    if nat_lt (file_size * 1000000) max_bytes then Some TooManyFiles else None

abbrev pub or_else : Option RecordRefusal → Option RecordRefusal → Option RecordRefusal
or_else (Some refusal) later = Some refusal
or_else None later = later

-- the first refusal, where the data are at most so many bytes
unfoldable pub record_refusal : Recording → ℕ → Option RecordRefusal
record_refusal r max_bytes =
    or_else (time_refusal (start_time r.header))
    (or_else (room_refusal r.header.size (with_offset r 0))
    (or_else (room_refusal r.header.size (with_number r 0))
    (or_else (room_refusal r.header.size (with_size r 0))
    (number_refusal r.file_size max_bytes))))
