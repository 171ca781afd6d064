-- The changes of a transfer's header for one of its files, and why they are refused.
-- Source: PSRDADA manual (OBS_OFFSET, FILE_NUMBER, FILE_SIZE); what is refused is this project's
-- profile.
use Rattle.std.specs.Prelude.{◌≡◌, ℕ, ◌^◌, ◌-◌, min, Option, Some}
use Rattle.dada_model.specs.Fields.{HeaderText}
use Rattle.stream_model.specs.Recorded as model
use Rattle.stream_model.specs.Recorded.{Recording, RecordRefusal, record_refusal, room_refusal, or_else, with_offset, with_number, with_size, NoTime, BadTime, NoRoom}
use Rattle.dada_recorder.specs.declared.answers.RecordFault.{RecordFault}
use Rattle.dada_recorder.specs.declared.answers.RecordFault.TheVariants.{NotHeader, NoUtc, BadUtc, Overfull, TooManyFiles}

-- what is recorded under a header
abbrev pub recording : HeaderText → ℕ → ℕ → Recording
recording header offset file_size =
    record { header = header; offset = offset; file_size = file_size }

-- the answer to a refusal; a length is told up to the greatest number there is
abbrev pub IsRefusal : RecordFault → RecordRefusal → Type 0
IsRefusal (NotHeader fault) refusal = ⊥
IsRefusal NoUtc refusal = refusal ≡ NoTime
IsRefusal BadUtc refusal = refusal ≡ BadTime
IsRefusal (Overfull need size) refusal =
    (len : ℕ) × (refusal ≡ NoRoom len size) × (need ≡ min len (2 ^ 64 - 1))
IsRefusal TooManyFiles refusal = refusal ≡ model.TooManyFiles

-- there is a refusal, and this is the answer to it
abbrev pub Explains : Option RecordRefusal → RecordFault → Type 0
Explains refused fault =
    (refusal : RecordRefusal) × (refused ≡ Some refusal) × IsRefusal fault refusal

-- what stands against a recording of at most so many bytes
abbrev pub RefusesRecording : Recording → ℕ → RecordFault → Type 0
RefusesRecording r max_bytes fault = Explains (record_refusal r max_bytes) fault

-- the first of the three changes for which the header has no room; or else what is refused later
abbrev pub change_refusal : Recording → ℕ → Option RecordRefusal → Option RecordRefusal
change_refusal r i later =
    or_else (room_refusal r.header.size (with_offset r i))
    (or_else (room_refusal r.header.size (with_number r i))
    (or_else (room_refusal r.header.size (with_size r i)) later))
