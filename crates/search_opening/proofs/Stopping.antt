-- Stops of searches and of recordings, in the words of a walk.
use Rattle.std.proofs.Common.{◌≡◌, true, ℕ, ◌<◌, ◌≤◌, List, [], length, get_or, slice_get, Option, Some, None, refl, sym, ap, subst, ◌∙◌, arith}
use Rattle.std.specs.Prelude.{IfSome}
use Rattle.std.proofs.lemmas.Option.{same_Some, slice_get_within, get_or_from_slice_get, slice_get-get_or}
use Rattle.dada_model.specs.Fields.{HeaderText}
use Rattle.dada_model.specs.Observation.{Observation}
use Rattle.search_model.specs.declared.search.Search.{Search}
use Rattle.search_model.specs.Plan.{PlanRefusal, plan_refusal}
use Rattle.search_engine.specs.Plan.{IsRefusedFirst}
use Rattle.search_engine.specs.declared.fault.PlanFault.{PlanFault}
use Rattle.search_engine.specs.declared.fault.PlanFault.TheVariants as plan
use Rattle.psr_base.specs.Told.{Told}
use Rattle.search_words.specs.Settings.{SettingsOf}
use Rattle.stream_model.specs.Walk.{FileStream, observation_at}
use Rattle.stream_model.specs.WalkLaws.{IsAccepted}
use Rattle.stream_model.specs.Recorded.{RecordRefusal, record_refusal}
use Rattle.dada_recorder.specs.Blocks.{header_or_none}
use Rattle.dada_recorder.specs.Changes.{recording, Explains}
use Rattle.dada_recorder.specs.declared.answers.RecordFault.{RecordFault}
use Rattle.dada_recorder.specs.declared.answers.RecordFault.TheVariants as fault
use Rattle.run_outcome.specs.declared.causes.PlanCause.{PlanCause}
use Rattle.run_outcome.specs.declared.causes.PlanCause.TheVariants.{SumBound, FoldTooLarge, TooManyFolds, TooManyShards}
use Rattle.run_outcome.specs.declared.causes.RecordingCause.{RecordingCause}
use Rattle.run_outcome.specs.declared.causes.RecordingCause.TheVariants.{NoUtc, BadUtc, Overfull, TooManyFiles}
use Rattle.run_outcome.specs.declared.stop.Stop.{Stop}
use Rattle.run_outcome.specs.declared.stop.Stop.TheVariants as stop
use Rattle.run_outcome.specs.Firsts.{EachFirst}
use Rattle.run_outcome.specs.Conversions.{stop_of_plan, IsRecordingStop}
use Rattle.run_outcome.specs.Runs.{Task, SettingsFor, IfSearch, first_observation, first_recording, recording_of, CanSearch, CanRecord, CanSearchFirst, CanRecordFirst, IsPlanCause, IsRecordingCause, OfEachFirst, RefusesSearch, RefusesSearchAt, RefusesToRecord, RefusesRecordingAt}
use Rattle.search_opening.specs.First.{AreFirsts, AreHeadersOf, IsFirstOf, AreFirstsAt}
use Rattle.search_opening.specs.Plans.{PlansFit, RefusesPlan, RefusesObservation, StopsSearch}
use Rattle.search_opening.specs.Recordings.{RecordingsFit, RefusesTransfer, RefusesRecordingOf, StopsRecording}

-- the cause of a refused search
plan_cause : (fault : PlanFault) (first : Option PlanRefusal) → IsRefusedFirst first fault →
    (cause : PlanCause) × (stop_of_plan fault ≡ stop.Plan cause) × IsPlanCause first cause
plan_cause (plan.SumBound max_sample cells factor) first is = (SumBound max_sample cells factor, refl, is)
plan_cause (plan.FoldTooLarge longest halvings) first is = (FoldTooLarge longest halvings, refl, is)
plan_cause (plan.TooManyFolds count) first is = (TooManyFolds count, refl, is)
plan_cause (plan.TooManyShards shards delays) first is = (TooManyShards shards delays, refl, is)
plan_cause plan.Memory first is = absurd is

-- the stop of a refused search
pub stops_search : (observations : List (Option Observation)) (s : Search) (fault : PlanFault) →
    RefusesPlan s observations fault → StopsSearch s observations (stop_of_plan fault)
stops_search observations s fault refuses =
    let why = plan_cause fault (plan_refusal refuses.observation s) refuses.cause in (
      why.0,
      why.1,
      record {
        transfer = refuses.transfer;
        observation = refuses.observation;
        there = refuses.there;
        refused = why.2;
        earlier = refuses.earlier;
      },
    )

-- what is said of each observation
pub plan_fits : (s : Search) (observations : List (Option Observation)) → PlansFit s observations → (k : ℕ)
    (o : Observation) → slice_get observations k ≡ Some (Some o) → plan_refusal o s ≡ None
plan_fits s observations fit k o there =
    let within = slice_get_within observations k (Some o) there in
    subst (λ (at : Option Observation). IfSome at (λ p. plan_refusal p s ≡ None))
    (get_or_from_slice_get observations k (Some o) None there) (fit k None within)

-- ---- observations

module _ (w : FileStream) (observations : List (Option Observation)) (firsts : AreFirsts w observations) where
  first_there : (k : ℕ) (o : Observation) → slice_get observations k ≡ Some (Some o) →
      (k < length w.starts) × (o ≡ first_observation w k)
  first_there k o there =
      let within = slice_get_within observations k (Some o) there in
      let below : k < length w.starts = omega (arith, within, firsts.count) in (
        below,
        same_Some o (first_observation w k)
            (same_Some (Some o) (Some (first_observation w k)) (sym there ∙ firsts.each k below)),
      )

  -- ---- searches

  pub can_search : (s : Search) (count : ℕ) → count ≤ length w.starts →
      ((k : ℕ) (o : Observation) → k < count → slice_get observations k ≡ Some (Some o) → plan_refusal o s ≡ None) →
      CanSearchFirst s w count
  can_search s count most fit k below =
      fit k (first_observation w k) below (firsts.each k (omega (arith, below, most)))

  pub refuses_search : (s : Search) (cause : PlanCause) → RefusesObservation s observations cause →
      RefusesSearch s w cause
  refuses_search s cause refuses =
      let here = first_there refuses.transfer refuses.observation refuses.there in
      record {
        accepted = firsts.walked;
        transfer = refuses.transfer;
        there = here.0;
        refused = subst (λ o. IsPlanCause (plan_refusal o s) cause) here.1 refuses.refused;
        earlier = can_search s refuses.transfer (omega (arith, here.0)) (λ k o. refuses.earlier k o);
      }

-- ---- recordings

-- the cause of a refused recording
recording_cause : (fault : RecordFault) (s : Stop) (first : Option RecordRefusal) → IsRecordingStop fault s →
    Explains first fault → (cause : RecordingCause) × (s ≡ stop.Recording cause) × IsRecordingCause first cause
recording_cause (fault.NotHeader bad) s first is why = absurd is
recording_cause fault.NoUtc s first is why = (NoUtc, is, why.1 ∙ ap (λ (r : RecordRefusal). Some r) why.2)
recording_cause fault.BadUtc s first is why = (BadUtc, is, why.1 ∙ ap (λ (r : RecordRefusal). Some r) why.2)
recording_cause (fault.Overfull need size) s first is why = (
  Overfull need size,
  is,
  (why.2.0, why.1 ∙ ap (λ (r : RecordRefusal). Some r) why.2.1, why.2.2),
)
recording_cause fault.TooManyFiles s first is why =
    (TooManyFiles, is, why.1 ∙ ap (λ (r : RecordRefusal). Some r) why.2)

module _ (w : FileStream) (observations : List (Option Observation)) (headers : List HeaderText)
    (firsts : AreFirsts w observations) (are : AreHeadersOf w headers) (many : length observations ≡ length headers)
    (file_size : ℕ) where
  recording_is : (k : ℕ) (header : HeaderText) (o : Observation) → slice_get headers k ≡ Some header →
      o ≡ first_observation w k → recording header o.obs_offset file_size ≡ first_recording w file_size k
  recording_is k header o there is =
      ap (λ (p : Observation). recording header p.obs_offset file_size) is
      ∙ ap (λ r. recording (header_or_none r) (first_observation w k).obs_offset file_size) (sym (are k header there))

  pub can_record : (count : ℕ) → count ≤ length w.starts →
      RecordingsFit file_size w.max_bytes headers observations count → CanRecordFirst file_size w count
  can_record count most fit k below =
      let within : k < length headers = omega (arith, below, most, many, firsts.count) in
      let none : HeaderText = record { size = 0; text = [] } in
      let header = get_or headers k none in
      let there : slice_get headers k ≡ Some header = slice_get-get_or headers k none within in
      subst (λ r. record_refusal r w.max_bytes ≡ None)
      (recording_is k header (first_observation w k) there refl)
      (fit k header (first_observation w k) below there (firsts.each k (omega (arith, below, most))))

-- of a walk
pub refuses_recording : (w : FileStream) (observations : List (Option Observation)) (headers : List HeaderText) →
    AreFirsts w observations → AreHeadersOf w headers → length observations ≡ length headers → (task : Task)
    (s : SettingsFor task) (cause : RecordingCause) →
    IfSearch task s.search (λ search. CanSearchFirst search w (length w.starts)) → s.recording ≡ true →
    RefusesRecordingOf s.file_size w.max_bytes headers observations cause → RefusesToRecord task s w cause
refuses_recording w observations headers firsts are many task s cause searched records refuses =
    let here = first_there w observations firsts refuses.transfer refuses.observation refuses.said in
    record {
      accepted = firsts.walked;
      searched = searched;
      records = records;
      transfer = refuses.transfer;
      there = here.0;
      refused = subst (λ r. IsRecordingCause (record_refusal r w.max_bytes) cause)
          (recording_is w observations headers firsts are many s.file_size refuses.transfer refuses.header
          refuses.observation refuses.there here.1) refuses.refused;
      earlier = can_record w observations headers firsts are many s.file_size refuses.transfer (omega (arith, here.0))
          refuses.earlier;
    }

-- the stop of a refused recording
pub stops_recording : (file_size max_bytes : ℕ) (headers : List HeaderText) (observations : List (Option Observation))
    (fault : RecordFault) (s : Stop) → IsRecordingStop fault s →
    RefusesTransfer file_size max_bytes headers observations fault →
    StopsRecording file_size max_bytes headers observations s
stops_recording file_size max_bytes headers observations fault s is refuses =
    let recorded = recording refuses.header refuses.observation.obs_offset file_size in
    let why = recording_cause fault s (record_refusal recorded max_bytes) is refuses.cause in (
      why.0,
      why.1,
      record {
        transfer = refuses.transfer;
        header = refuses.header;
        observation = refuses.observation;
        there = refuses.there;
        said = refuses.said;
        refused = why.2;
        earlier = refuses.earlier;
      },
    )

-- ---- first files, each by itself

module _ {S : Type 0} (told : Told) (s : SettingsOf S) (headers : List HeaderText) (observations : List (Option Observation))
    (are : AreFirstsAt told s.names s.starts headers observations) where
  pub each_accepted : OfEachFirst told s IsAccepted
  each_accepted k below file is =
      let first = are k below file is in
      record {
        header = first.header;
        observation = first.observation;
        is_header = first.is_header;
        is_observation = first.is_observation;
      }

  -- they can be searched
  pub each_searched : (search : Search) (count : ℕ) → count ≤ length s.starts →
      ((k : ℕ) (o : Observation) → k < count → slice_get observations k ≡ Some (Some o) →
      plan_refusal o search ≡ None) → EachFirst told s.names s.starts count (CanSearch search)
  each_searched search count most fit k below file is =
      let first = are k (omega (arith, below, most)) file is in
      subst (λ o. plan_refusal o search ≡ None) first.is (fit k first.observation below first.said)

  -- a file as it is recorded
  recorded_is : (file_size k : ℕ) (file : List ℕ) (first : IsFirstOf headers observations k file) →
      recording first.header first.observation.obs_offset file_size ≡ recording_of file_size file
  recorded_is file_size k file first =
      ap (λ (p : Observation). recording first.header p.obs_offset file_size) first.is
      ∙ ap (λ r. recording (header_or_none r) (observation_at file).obs_offset file_size) (sym first.is_header)

  pub each_recorded : (file_size max_bytes count : ℕ) → count ≤ length s.starts →
      RecordingsFit file_size max_bytes headers observations count →
      EachFirst told s.names s.starts count (CanRecord file_size max_bytes)
  each_recorded file_size max_bytes count most fit k below file is =
      let first = are k (omega (arith, below, most)) file is in
      subst (λ r. record_refusal r max_bytes ≡ None) (recorded_is file_size k file first)
      (fit k first.header first.observation below first.there first.said)

  -- there are as many observations as first files
  module _ (many : length observations ≡ length s.starts) where
    place_there : (k : ℕ) (o : Observation) → slice_get observations k ≡ Some (Some o) → k < length s.starts
    place_there k o there =
        let within = slice_get_within observations k (Some o) there in
        omega (arith, within, many)

    same_said : (k : ℕ) (o p : Observation) → slice_get observations k ≡ Some (Some o) →
        slice_get observations k ≡ Some (Some p) → o ≡ p
    same_said k o p one other = same_Some o p (same_Some (Some o) (Some p) (sym one ∙ other))

    pub refuses_search_at : (search : Search) (cause : PlanCause) → RefusesObservation search observations cause →
        RefusesSearchAt search s told cause
    refuses_search_at search cause refuses =
        let there = place_there refuses.transfer refuses.observation refuses.there in
        record {
          accepted = each_accepted;
          transfer = refuses.transfer;
          there = there;
          refused = λ file is.
              let first = are refuses.transfer there file is in
              subst (λ o. IsPlanCause (plan_refusal o search) cause)
              (same_said refuses.transfer refuses.observation first.observation refuses.there first.said ∙ first.is)
              refuses.refused;
          earlier = each_searched search refuses.transfer (omega (arith, there)) (λ k o. refuses.earlier k o);
        }

pub refuses_recording_at : (told : Told) (task : Task) (s : SettingsFor task) (headers : List HeaderText)
    (observations : List (Option Observation)) → AreFirstsAt told s.names s.starts headers observations →
    length observations ≡ length s.starts → (cause : RecordingCause) →
    IfSearch task s.search (λ search. OfEachFirst told s (CanSearch search)) → s.recording ≡ true →
    RefusesRecordingOf s.file_size s.max_bytes headers observations cause → RefusesRecordingAt task s told cause
refuses_recording_at told task s headers observations are many cause searched records refuses =
    let there = place_there told s headers observations are many refuses.transfer refuses.observation refuses.said in
    record {
      accepted = each_accepted told s headers observations are;
      searched = searched;
      records = records;
      transfer = refuses.transfer;
      there = there;
      refused = λ file is.
          let first = are refuses.transfer there file is in
          let header = same_Some refuses.header first.header (sym refuses.there ∙ first.there) in
          let said = same_said told s headers observations are many refuses.transfer refuses.observation
          first.observation refuses.said first.said in
          subst (λ r. IsRecordingCause (record_refusal r s.max_bytes) cause)
          (ap (λ (h : HeaderText). recording h refuses.observation.obs_offset s.file_size) header
          ∙ ap (λ (o : Observation). recording first.header o.obs_offset s.file_size) said
          ∙ recorded_is told s headers observations are s.file_size refuses.transfer file first)
          refuses.refused;
      earlier = each_recorded told s headers observations are s.file_size s.max_bytes refuses.transfer
          (omega (arith, there)) refuses.earlier;
    }
