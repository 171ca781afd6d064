-- The files that a feeder reads, and where it may be in them.
-- Source: this project's profile.
use Rattle.std.specs.Prelude.{◌≡◌, ℕ, ◌+◌, ◌<◌, ◌≤◌, ◌⊎◌, true, if◌then◌else◌, Option, Some, Ok, List, [], length, slice_get, slice_index_or}
use Rattle.dada_model.specs.Fields.{HeaderText, fields_of, header_of}
use Rattle.dada_model.specs.Observation.{observation_of, observation_in}
use Rattle.obs_plan.specs.Later.{profile_of}
use Rattle.psr_base.specs.Told.{Told, OfFile}
use Rattle.stream_model.specs.Walk.{FileStream}
use Rattle.disk_feeder.specs.declared.place.First.{First}
use Rattle.disk_feeder.specs.declared.place.Place.{Place}

-- the names of the files in order, the numbers of those with which a transfer begins, the most data bytes; the first
-- header of each transfer, and what was accepted of it
pub record Plan : Type 0 where
  pub names : List (List ℕ)
  pub starts : List ℕ
  pub max_bytes : ℕ
  pub headers : List HeaderText
  pub firsts : List (Option First)

-- the files as a walk sees them
abbrev pub stream_of : Plan → List (List ℕ) → FileStream
stream_of plan files = record { files = files; starts = plan.starts; max_bytes = plan.max_bytes }

-- these are the bytes that are told of the files
pub record AreTold (told : Told) (names files : List (List ℕ)) : Type 0 where
  pub count : length files ≡ length names
  pub each : (k : ℕ) → k < length names →
      told.bytes_under (slice_index_or names k []) ≡ Some (slice_index_or files k [])

-- the file with which a transfer begins, of so many files
abbrev pub begin_at : List ℕ → ℕ → ℕ → ℕ
begin_at starts count transfer = slice_index_or starts transfer count

-- ---- where not all of them are told

-- some transfer begins with this file, of so many
abbrev pub IsFirstFile : List ℕ → ℕ → ℕ → Type 0
IsFirstFile starts count k =
    (transfer : ℕ) × (transfer < length starts) × (k ≡ begin_at starts count transfer)

-- some transfer begins with this file, which comes before another
abbrev pub IsFirstBefore : ℕ → List ℕ → ℕ → ℕ → Type 0
IsFirstBefore end starts count k = (k < end) × IsFirstFile starts count k

-- it is one of so many from the first on, or a transfer begins with it: those are opened before all others
abbrev pub IsAmong : ℕ → List ℕ → ℕ → ℕ → Type 0
IsAmong opened starts count k = (k < opened) ⊎ IsFirstFile starts count k

-- these are the bytes that are told of the files that are needed; of all others nothing is said
pub record AreToldAt (Needed : ℕ → Type 0) (told : Told) (names files : List (List ℕ)) :
    Type 0 where
  pub count : length files ≡ length names
  pub each : (k : ℕ) → k < length names → Needed k →
      told.bytes_under (slice_index_or names k []) ≡ Some (slice_index_or files k [])

-- these are the bytes that are told of so many files from the first on
abbrev pub AreToldTo : ℕ → Told → Plan → List (List ℕ) → Type 0
AreToldTo opened told plan files = AreToldAt (λ k. k < opened) told plan.names files

-- and of the first one of each transfer
abbrev pub AreToldWithFirsts : ℕ → Told → Plan → List (List ℕ) → Type 0
AreToldWithFirsts opened told plan files =
    AreToldAt (IsAmong opened plan.starts (length plan.names)) told plan.names files

-- into how many files a walk has come at a place, past their headers
abbrev pub opened_at : Place → ℕ
opened_at at = if at.is_open then at.file + 1 else at.file

-- a place among the files: within a transfer or at its end, or after all transfers
pub record IsPlace (starts : List ℕ) (count max_bytes : ℕ) (at : Place) : Type 0 where
  pub transfer : at.transfer ≤ length starts
  pub from : begin_at starts count at.transfer ≤ at.file
  pub upto : at.transfer < length starts → at.file ≤ begin_at starts count (at.transfer + 1)
  pub opened : at.is_open ≡ true →
      (at.transfer < length starts) × (at.file < begin_at starts count (at.transfer + 1))
  pub since : at.since ≤ at.total
  pub total : at.total ≤ max_bytes

-- the place is at a file of its transfer
pub record IsAtFile (plan : Plan) (at : Place) : Type 0 where
  pub there : at.transfer < length plan.starts
  pub from : begin_at plan.starts (length plan.names) at.transfer ≤ at.file
  pub before : at.file < begin_at plan.starts (length plan.names) (at.transfer + 1)

-- what was accepted of a header: its observation
pub record IsFirst (header : HeaderText) (first : First) : Type 0 where
  pub accepted : observation_of (fields_of header.text)
      ≡ Ok (observation_in (fields_of header.text))
  pub profile : first.profile ≡ profile_of (observation_in (fields_of header.text))
  pub offset : first.offset ≡ (observation_in (fields_of header.text)).obs_offset

-- each first header was accepted
abbrev pub AreAccepted : Plan → Type 0
AreAccepted plan = (transfer : ℕ) (header : HeaderText) →
    slice_get plan.headers transfer ≡ Some header →
    (first : First) × (slice_get plan.firsts transfer ≡ Some (Some first)) × IsFirst header first

-- each first header is that of its file, where that is told
abbrev pub HeadersAreTold : Plan → Told → Type 0
HeadersAreTold plan told = (transfer : ℕ) (header : HeaderText) →
    slice_get plan.headers transfer ≡ Some header →
    OfFile told
    (slice_index_or plan.names (begin_at plan.starts (length plan.names) transfer) [])
    (λ file. header_of file ≡ Ok header)
