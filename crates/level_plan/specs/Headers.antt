-- The header of a levelled file: that of its observation, with what averaging and other bits change.
-- Source: PSRDADA manual (keywords); which of them follow is this project's choice.
use Rattle.std.specs.Prelude.{◌≡◌, ℕ, ◌*◌, ◌/◌, ◌^◌, ◌<◌, ◌==◌, nat_le, List, [], ◌∷◌, length, take, get_or, codes, Option, Some, None, option_map, option_and_then, ℤ, pos, if◌then◌else◌}
use Rattle.dada_model.specs.Number.{number_value}
use Rattle.dada_model.specs.Observation.{Observation}
use Rattle.dada_model.specs.Fields.{HeaderText, fields_of, value_of}
use Rattle.dada_model.specs.Change.{changed}
use Rattle.dada_header.specs.declared.faults.SetFault.{SetFault}
use Rattle.dada_header.specs.declared.faults.SetFault.TheVariants.{Overfull}
use Rattle.dada_header.specs.Changes.{IsOverfull}
use Rattle.psr_base.specs.Fixed.{fixed_text}
use Rattle.level_words.specs.declared.settings.LevelOptions.{LevelOptions}
use Rattle.level_plan.specs.declared.field.Field.{Field}
use Rattle.level_plan.specs.declared.field.Field.TheVariants.{Tsamp, Nbit, ObsOffset, BytesPerSecond, FileSize, ObsSize, TransferSize}
use Rattle.level_plan.specs.declared.header.HeaderStop.{HeaderStop}
use Rattle.level_plan.specs.declared.header.HeaderStop.TheVariants as stop
use Rattle.level_plan.specs.Plans.{written_bits}

-- the fields in the order in which they are changed
abbrev pub all_fields : List Field
all_fields =
    Tsamp ∷ Nbit ∷ ObsOffset ∷ BytesPerSecond ∷ FileSize ∷ ObsSize ∷ TransferSize ∷ []

abbrev pub field_name : Field → List ℕ
field_name Tsamp = codes "TSAMP"
field_name Nbit = codes "NBIT"
field_name ObsOffset = codes "OBS_OFFSET"
field_name BytesPerSecond = codes "BYTES_PER_SECOND"
field_name FileSize = codes "FILE_SIZE"
field_name ObsSize = codes "OBS_SIZE"
field_name TransferSize = codes "TRANSFER_SIZE"

-- TSAMP is in microseconds, and written in ns
abbrev pub field_decimals : Field → ℕ
field_decimals Tsamp = 3
field_decimals _ = 0

-- a number of bytes that a header tells, up to 10^18
abbrev pub if_count : Option ℤ → Option ℕ
if_count (Some (pos n)) = if nat_le n (10 ^ 18) then Some n else None
if_count _ = None

abbrev pub told_count : Field → HeaderText → Option ℕ
told_count field header = if_count
    (option_and_then (number_value 0) (value_of (field_name field) (fields_of header.text)))

-- as many bytes are written for `bytes_read` bytes that are read
abbrev pub bytes_written : LevelOptions → Observation → ℕ
bytes_written s o = written_bits s o / 8

abbrev pub bytes_read : LevelOptions → Observation → ℕ
bytes_read s o = s.average * (o.nbit / 8)

-- what counts bytes follows them, if it is told
abbrev pub new_count : LevelOptions → Observation → Option ℕ → Option ℕ
new_count s o count = if bytes_written s o == bytes_read s o then None
    else option_map (λ n. n * bytes_written s o / bytes_read s o) count

-- the number that a field gets, in units of its last decimal, if it gets another
abbrev pub new_number : LevelOptions → Observation → HeaderText → Field → Option ℕ
new_number s o header Tsamp = if s.average == 1 then None else Some (o.sample_ns * s.average)
new_number s o header Nbit = if written_bits s o == o.nbit then None else Some (written_bits s o)
new_number s o header field = new_count s o (told_count field header)

-- a header with the number in this field
abbrev pub with_number : Field → Option ℕ → HeaderText → HeaderText
with_number field None header = header
with_number field (Some n) header = record {
  size = header.size;
  text = changed (field_name field) (fixed_text (field_decimals field) (pos n)) header.text;
}

-- with those of some fields, one after another; each number is that of the first header
abbrev pub with_numbers : (Field → Option ℕ) → List Field → HeaderText → HeaderText
with_numbers number [] header = header
with_numbers number (field ∷ fields) header =
    with_numbers number fields (with_number field (number field) header)

-- the header of the levelled file
unfoldable pub level_header : LevelOptions → Observation → HeaderText → HeaderText
level_header s o header = with_numbers (new_number s o header) all_fields header

-- one of the fields finds no room, once those before it are changed
pub record HasNoRoom (s : LevelOptions) (o : Observation) (header : HeaderText) (need size : ℕ) :
    Type 0 where
  pub place : ℕ
  pub there : place < length all_fields
  pub number : ℕ
  pub gets : new_number s o header (get_or all_fields place Tsamp) ≡ Some number
  pub full : IsOverfull (field_name (get_or all_fields place Tsamp))
      (fixed_text (field_decimals (get_or all_fields place Tsamp)) (pos number))
      (with_numbers (new_number s o header) (take place all_fields) header) (Overfull need size)

-- none of them does
abbrev pub HasRoom : LevelOptions → Observation → HeaderText → Type 0
HasRoom s o header = (need size : ℕ) → HasNoRoom s o header need size → ⊥

-- a header has room for the number of a field, if it gets one
abbrev pub HasRoomFor : Field → Option ℕ → HeaderText → Type 0
HasRoomFor field number header = (n need size : ℕ) → number ≡ Some n →
    IsOverfull (field_name field) (fixed_text (field_decimals field) (pos n)) header
    (Overfull need size) → ⊥

abbrev pub FindsNoRoom : LevelOptions → Observation → HeaderText → SetFault → Type 0
FindsNoRoom s o header (Overfull need size) = HasNoRoom s o header need size

-- why there is no header of a levelled file: one of the fields finds no room, or there was no memory
abbrev pub ExplainsHeader : LevelOptions → Observation → HeaderText → HeaderStop → Type 0
ExplainsHeader s o header (stop.Overfull need size) = HasNoRoom s o header need size
ExplainsHeader s o header stop.Memory = Unit {0}
