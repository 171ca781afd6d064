-- The recordings of all transfers, in order: they fit, or the first that does not.
-- Source: this project's choice.
use Rattle.std.specs.Prelude.{◌≡◌, ◌<◌, ℕ, List, Option, Some, None, slice_get}
use Rattle.dada_model.specs.Fields.{HeaderText}
use Rattle.dada_model.specs.ChangeLaws.{IsReadBack}
use Rattle.dada_model.specs.Observation.{Observation}
use Rattle.stream_model.specs.Recorded.{record_refusal}
use Rattle.dada_recorder.specs.Changes.{recording, RefusesRecording}
use Rattle.dada_recorder.specs.declared.answers.RecordFault.{RecordFault}
use Rattle.run_outcome.specs.declared.causes.RecordingCause.{RecordingCause}
use Rattle.run_outcome.specs.declared.stop.Stop.{Stop}
use Rattle.run_outcome.specs.declared.stop.Stop.TheVariants.{Recording}
use Rattle.run_outcome.specs.Runs.{IsRecordingCause}

-- under the header, from the observation's OBS_OFFSET on, so many data bytes can be recorded in files of this size
abbrev pub RecordingFits : ℕ → ℕ → HeaderText → Observation → Type 0
RecordingFits file_size max_bytes header o =
    record_refusal (recording header o.obs_offset file_size) max_bytes ≡ None

-- and so it is with the first transfers
abbrev pub RecordingsFit : ℕ → ℕ → List HeaderText → List (Option Observation) → ℕ → Type 0
RecordingsFit file_size max_bytes headers observations count =
    (k : ℕ) (header : HeaderText) (o : Observation) → k < count →
    slice_get headers k ≡ Some header → slice_get observations k ≡ Some (Some o) →
    RecordingFits file_size max_bytes header o

-- each header is read back from its bytes
abbrev pub AreReadBack : List HeaderText → Type 0
AreReadBack headers =
    (k : ℕ) (header : HeaderText) → slice_get headers k ≡ Some header → IsReadBack header

-- the recording of some transfer is refused, and those before it fit
pub record RefusesTransfer
    (file_size max_bytes : ℕ) (headers : List HeaderText)
    (observations : List (Option Observation)) (fault : RecordFault) : Type 0 where
  pub transfer : ℕ
  pub header : HeaderText
  pub observation : Observation
  pub there : slice_get headers transfer ≡ Some header
  pub said : slice_get observations transfer ≡ Some (Some observation)
  pub cause : RefusesRecording (recording header observation.obs_offset file_size) max_bytes fault
  pub earlier : RecordingsFit file_size max_bytes headers observations transfer

-- ---- the stop of a run

-- it says that a recording is refused
abbrev pub IsOfRecording : Stop → Type 0
IsOfRecording stop = (cause : RecordingCause) × (stop ≡ Recording cause)

-- the recording of some transfer is refused by this cause, and those before it fit
pub record RefusesRecordingOf
    (file_size max_bytes : ℕ) (headers : List HeaderText)
    (observations : List (Option Observation)) (cause : RecordingCause) : Type 0 where
  pub transfer : ℕ
  pub header : HeaderText
  pub observation : Observation
  pub there : slice_get headers transfer ≡ Some header
  pub said : slice_get observations transfer ≡ Some (Some observation)
  pub refused : IsRecordingCause
      (record_refusal (recording header observation.obs_offset file_size) max_bytes) cause
  pub earlier : RecordingsFit file_size max_bytes headers observations transfer

-- and so the stop says, with its cause
abbrev pub StopsRecording : ℕ → ℕ → List HeaderText → List (Option Observation) → Stop → Type 0
StopsRecording file_size max_bytes headers observations stop =
    (cause : RecordingCause) × (stop ≡ Recording cause)
    × RefusesRecordingOf file_size max_bytes headers observations cause
