-- What a session records, over the files of a run.
use Rattle.std.proofs.Common.{◌≡◌, ◌≢◌, ℕ, ◌<◌, ◌≤◌, true, List, Option, Some, Ok, length, refl, sym, ap, ◌∙◌, arith}
use Rattle.std.specs.Prelude.{slice_get, slice_index_or}
use Rattle.std.specs.Option.{option_map}
use Rattle.std.proofs.lemmas.List.{length-map}
use Rattle.std.proofs.lemmas.Option.{slice_get-map, slice_get_within, get_or_from_slice_get}
use Rattle.dada_model.specs.Fields.{HeaderText, fields_of}
use Rattle.dada_model.specs.Observation.{Observation, observation_of}
use Rattle.psr_base.specs.Count.{Rose}
use Rattle.psr_base.specs.Told.{Told}
use Rattle.psr_base.specs.Made.{NamedBytes, FilesSeen}
use Rattle.stream_model.specs.Walk.{FileStream}
use Rattle.stream_model.specs.Recorded.{record_refusal}
use Rattle.disk_feeder.specs.declared.answers.FeedEnd.{FeedEnd}
use Rattle.disk_feeder.specs.declared.feeder.Feeder.{Feeder}
use Rattle.disk_feeder.specs.Feeder.{headers_of, plan_at}
use Rattle.dada_recorder.specs.declared.answers.RecordEnd.{RecordEnd}
use Rattle.dada_recorder.specs.declared.answers.RecordEnd.TheVariants.{Whole, Cut, FileFault, BadHeader, TooLong}
use Rattle.dada_recorder.specs.Changes.{recording}
use Rattle.dada_recorder.specs.Making.{Outset, BeginsAt}
use Rattle.search_session.specs.Recorded.{SealsRecordable, EndsRecording, HasRecorded}
use Rattle.search_opening.specs.declared.space.StageSpace.{StageSpace}
use Rattle.search_opening.specs.First.{AreFirsts, AreHeadersOf, AreObserved}
use Rattle.run_outcome.specs.Ends.{EndsAsFed}
use Rattle.run_outcome.specs.Laws.{RecordsFirsts}
use Rattle.run_outcome.specs.Outcomes.{MadeBy}
use Rattle.run_outcome.specs.Runs.{Task, SettingsFor, first_observation}
use Rattle.search_opening.specs.Ready.{IsReady}
use Rattle.search_opening.specs.Spaces.{plan_for}
use Rattle.drive_session.proofs.Lists.{some_at}

-- ---- observations

-- as many observations as headers, one at each place
pub as_many : (headers : List HeaderText) (observations : List (Option Observation)) →
    AreObserved headers observations → length headers ≡ length observations
as_many headers observations are =
    sym (length-map headers (λ header. observation_of (fields_of header.text)))
    ∙ ap length are.accepted ∙ length-map are.said Ok
    ∙ sym (length-map are.said Some) ∙ ap length (sym are.here)

pub observation_at_place : (headers : List HeaderText) (observations : List (Option Observation)) (k : ℕ) →
    AreObserved headers observations → k < length observations →
    (o : Observation) × (slice_get observations k ≡ Some (Some o))
observation_at_place headers observations k are below =
    let count = ap length are.here ∙ length-map are.said Some in
    let there = some_at are.said k (omega (arith, count, below)) in
    (there.0, ap (λ os. slice_get os k) are.here ∙ slice_get-map Some are.said k ∙ ap (option_map Some) there.1)

-- ---- nothing stands against the recording

pub is_recordable : {I F : Type 0} (told : I → Told) (is_open : I → Type 0) (task : Task) (s : SettingsFor task)
    (offsets : List ℕ) (feeder : Feeder I) (observations : List (Option Observation)) (stage : StageSpace I F) →
    IsReady told is_open task s offsets feeder observations stage → s.recording ≡ true →
    SealsRecordable (plan_for s offsets) (plan_at feeder)
is_recordable told is_open task s offsets feeder observations stage ready records =
    let count = as_many (headers_of feeder) observations ready.observed in
    let headers = ready.plan.headers in
    let starts = ap length ready.plan.transfers in
    let places = ready.offsets_are.count in
    record {
      accepted = λ k header there.
          let below = slice_get_within (headers_of feeder) k header there in
          let is =
          observation_at_place (headers_of feeder) observations k ready.observed (omega (arith, below, count)) in
          let offset : slice_index_or offsets k 0 ≡ is.0.obs_offset =
          get_or_from_slice_get offsets k is.0.obs_offset 0 (ready.offsets_are.each k is.0 is.1) in (
            ready.fit.read_back records k header there,
            ap (λ n. record_refusal (recording header n s.file_size) s.max_bytes) offset
                ∙ ready.fit.can records k header is.0 (omega (arith, below, count)) there is.1,
          );
      headers = omega (arith, headers, starts);
      transfers = omega (arith, places, count, headers, starts);
      limit = omega (arith, ready.plan.limit);
    }

-- ---- under which headers

pub records_firsts : {I F : Type 0} (told : I → Told) (is_open : I → Type 0) (task : Task) (s : SettingsFor task)
    (offsets : List ℕ) (feeder : Feeder I) (observations : List (Option Observation)) (stage : StageSpace I F)
    (w : FileStream) → IsReady told is_open task s offsets feeder observations stage → s.recording ≡ true →
    w.starts ≡ s.starts → AreFirsts w observations → AreHeadersOf w (headers_of feeder) →
    RecordsFirsts (plan_for s offsets) w (headers_of feeder)
records_firsts told is_open task s offsets feeder observations stage w ready records starts firsts headers = record {
  count = ready.plan.headers ∙ ap length (sym starts);
  read = headers;
  read_back = ready.fit.read_back records;
  offsets = λ k below. get_or_from_slice_get offsets k (first_observation w k).obs_offset 0
      (ready.offsets_are.each k (first_observation w k) (firsts.each k below));
}

-- ---- how it ended, and what was made

pub ends_as_fed : (feed : FeedEnd) (files : List NamedBytes) (answer : RecordEnd) → EndsRecording feed files answer →
    EndsAsFed feed answer
ends_as_fed feed files (Whole count) ends = ends.0
ends_as_fed feed files (Cut count) ends = ends.0
ends_as_fed feed files FileFault ends = tt
ends_as_fed feed files (BadHeader fault) ends = absurd ends
ends_as_fed feed files (TooLong limit) ends = absurd ends

pub made_by : (feed : FeedEnd) (files : List NamedBytes) (before after : FilesSeen) (answer : RecordEnd) →
    EndsRecording feed files answer →
    ((outset : Outset) → BeginsAt outset before → HasRecorded outset files after answer) →
    (answer ≡ FileFault → Rose before.faults after.faults) → (answer ≢ FileFault → after.faults ≡ before.faults) →
    before.faults ≤ after.faults → MadeBy answer files before after
made_by feed files before after (Whole count) ends has rose quiet more =
    (ends.1, record { made = has; faults = quiet (λ e. cc) })
made_by feed files before after (Cut count) ends has rose quiet more =
    (ends.1, record { made = has; faults = quiet (λ e. cc) })
made_by feed files before after FileFault ends has rose quiet more =
    record { made = has; rose = rose refl; count = more }
made_by feed files before after (BadHeader fault) ends has rose quiet more = absurd ends
made_by feed files before after (TooLong limit) ends has rose quiet more = absurd ends
