-- Where nothing stands against a run, it does not end at its words, its inputs or its files.
use Rattle.std.proofs.Common.{◌≡◌, ◌≢◌, ◌⊎◌, ℕ, zero, suc, List, [], ◌∷◌, refl, inl, inr, sym, ap, ◌∙◌, ◌<◌, subst, Some, None, Ok, Contains, arith}
use Rattle.std.specs.Prelude.{Option, IsSome, length, slice_index_or, true}
use Rattle.psr_base.specs.Count.{Rose}
use Rattle.psr_base.specs.Told.{Told, InputsSeen}
use Rattle.dada_header.specs.declared.faults.HeaderFault.{HeaderFault}
use Rattle.dada_header.specs.declared.faults.HeaderFault.TheVariants as header
use Rattle.dada_header.specs.Faults.{IsHeaderRefusal}
use Rattle.dada_model.specs.Fields.{HeaderText, Field, header_of, fields_of}
use Rattle.dada_model.specs.Observation.{Observation, observation_of}
use Rattle.obs_plan.specs.declared.fault.ObsFault.{ObsFault}
use Rattle.obs_plan.specs.declared.fault.ObsFault.TheVariants as obs
use Rattle.obs_plan.specs.Faults.{IsRefusedFirst}
use Rattle.ring_ends.specs.declared.finished.Finished.{Finished}
use Rattle.search_model.specs.Plan.{PlanRefusal}
use Rattle.search_model.specs.declared.search.Search.{Search}
use Rattle.search_words.specs.Settings.{SettingsOf}
use Rattle.stream_model.specs.Walk as walk
use Rattle.stream_model.specs.Walk.{FileStream, WalkStop, begin_of, walk_stop}
use Rattle.stream_model.specs.WalkLaws.{AreWalked}
use Rattle.stream_model.specs.Recorded.{RecordRefusal}
use Rattle.disk_feeder.specs.Plan.{AreTold, AreToldAt, IsFirstFile}
use Rattle.disk_feeder.specs.Filling.{HoldsAll}
use Rattle.disk_feeder.specs.declared.answers.HeaderCause.{HeaderCause}
use Rattle.disk_feeder.specs.declared.answers.HeaderCause.TheVariants.{Text, Fields}
use Rattle.run_outcome.specs.declared.causes.PlanCause.{PlanCause}
use Rattle.run_outcome.specs.declared.causes.PlanCause.TheVariants.{SumBound, FoldTooLarge, TooManyFolds, TooManyShards}
use Rattle.run_outcome.specs.declared.causes.RecordingCause.{RecordingCause}
use Rattle.run_outcome.specs.declared.causes.RecordingCause.TheVariants.{NoUtc, BadUtc, Overfull, TooManyFiles}
use Rattle.run_outcome.specs.declared.stop.Stop.{Stop}
use Rattle.run_outcome.specs.Firsts.{RefusesTextAt}
use Rattle.run_outcome.specs.Runs.{Task, Searching, RecordingAlone, Alone, SearchFor, SettingsFor, is_search, IfSearch, Says, CanSearchFirst, CanRecordFirst, CanBegin, stream_for, stop_of_walk, RefusesFirstHeader, RefusesSearch, RefusesToRecord, RefusesFirsts, RefusesSearches, RefusesRecordings, IsPlanCause, IsRecordingCause}
use Rattle.run_outcome.specs.Outcomes.{JudgesWords, ReadsInputs, StopsAtFiles}
use Rattle.run_outcome.specs.Ends.{AcceptedGoesOn, AcceptedIsNotRefused}
use Rattle.run_outcome.proofs.Needs.{told_at, of_file}

-- ---- refusals

-- bytes that have a header are not refused
pub has_header : (file : List ℕ) (h : HeaderText) (fault : HeaderFault) → header_of file ≡ Ok h →
    IsHeaderRefusal file fault → ⊥
has_header file h (header.Short had) ok refused = cc
has_header file h (header.NotText place) ok refused = cc
has_header file h header.BadSize ok refused = cc
has_header file h header.Memory ok refused = refused

-- nor fields that have an observation
has_observation : (fields : List Field) (o : Observation) (fault : ObsFault) → observation_of fields ≡ Ok o →
    IsRefusedFirst fields fault → ⊥
has_observation fields o (obs.Missing key) ok refused = cc
has_observation fields o (obs.BadNumber key) ok refused = cc
has_observation fields o (obs.OutOfProfile key) ok refused = cc
has_observation fields o (obs.OutOfRange key) ok refused = cc
has_observation fields o (obs.TooNarrow bw nchan) ok refused = cc
has_observation fields o (obs.Differs key) ok refused = refused
has_observation fields o obs.Memory ok refused = refused

one_header : (a b : HeaderText) (file : List ℕ) → header_of file ≡ Ok a → header_of file ≡ Ok b → a ≡ b
one_header a b file x y = cc

-- a search that is not refused has no cause
no_plan_cause : (first : Option PlanRefusal) (cause : PlanCause) → first ≡ None → IsPlanCause first cause → ⊥
no_plan_cause first (SumBound max_sample cells factor) none is = cc
no_plan_cause first (FoldTooLarge longest halvings) none is = cc
no_plan_cause first (TooManyFolds count) none is = cc
no_plan_cause first (TooManyShards shards delays) none is = cc

-- nor has a recording
no_recording_cause : (first : Option RecordRefusal) (cause : RecordingCause) → first ≡ None →
    IsRecordingCause first cause → ⊥
no_recording_cause first NoUtc none is = cc
no_recording_cause first BadUtc none is = cc
no_recording_cause first (Overfull need size) none (len, is, told) = cc
no_recording_cause first TooManyFiles none is = cc

-- a whole walk stops nowhere
no_stop : (limit : ℕ) (at : WalkStop) (stop : Stop) → at ≡ walk.Whole → stop_of_walk limit at ≡ Some stop → ⊥
no_stop limit at stop whole stops = let none : stop_of_walk limit at ≡ None = ap (stop_of_walk limit) whole in cc

holds_all : (told : Told) (names files : List (List ℕ)) → AreTold told names files → HoldsAll told names
holds_all told names files are k below = subst IsSome (sym (are.each k below)) refl

-- ---- the run

pub first_accepted : (w : FileStream) (file : ℕ) (cause : HeaderCause) → AreWalked w →
    RefusesFirstHeader w file cause → ⊥
first_accepted w file (Text fault) walked r =
    let a = walked.accepted r.transfer r.there in
    has_header _ a.header fault a.is_header r.cause
first_accepted w file (Fields fault) walked r =
    let a = walked.accepted r.transfer r.there in
    let same = one_header a.header r.header _ a.is_header r.has in
    has_observation (fields_of r.header.text) a.observation fault
    (subst (λ (h : HeaderText). observation_of (fields_of h.text) ≡ Ok a.observation) same a.is_observation) r.cause

-- nor is the text of a first file, where it is told
text_accepted : {S : Type 0} (told : Told) (s : SettingsOf S) (files : List (List ℕ)) (file : ℕ) (fault : HeaderFault) →
    AreToldAt (IsFirstFile s.starts (length s.names)) told s.names files → AreWalked (stream_for s files) →
    RefusesTextAt told s.names s.starts file fault → ⊥
text_accepted told s files file fault are walked r =
    let begin : begin_of (stream_for s files) r.transfer ≡ file =
    ap (λ count. slice_index_or s.starts r.transfer count) are.count ∙ sym r.is in
    let a = walked.accepted r.transfer r.there in
    let here : header_of (slice_index_or files file []) ≡ Ok a.header =
    subst (λ k. header_of (slice_index_or files k []) ≡ Ok a.header) begin a.is_header in
    let below : file < length s.names =
    subst (λ k. k < length s.names) begin
    (subst (λ count. begin_of (stream_for s files) r.transfer < count) are.count
    (walked.starts.within r.transfer r.there)) in
    has_header (slice_index_or files file []) a.header fault here
    (of_file told s.names files file (λ bytes. IsHeaderRefusal bytes fault)
    (are.each file below (r.transfer, r.there, r.is)) r.refused)

-- so nothing is refused by first files that are told and accepted
pub firsts_accepted : (task : Task) (words : List (List ℕ)) (told : Told) (s : SettingsFor task) (files : List (List ℕ))
    (file : ℕ) (cause : HeaderCause) → Says task words s →
    AreToldAt (IsFirstFile s.starts (length s.names)) told s.names files → AreWalked (stream_for s files) →
    RefusesFirsts task words told file cause → ⊥
firsts_accepted task words told s files file (Text fault) says are walked r =
    text_accepted told s files file fault are walked (r s says)
firsts_accepted task words told s files file (Fields fault) says are walked r =
    first_accepted (stream_for s files) file (Fields fault) walked (r.1 s files says are)

-- what follows of the search of a task that has one
pub of_search : {P : Search → Type 0} {Q : Type 0} (task : Task) (search : SearchFor task) → is_search task ≡ true →
    ((found : Search) → P found → Q) → IfSearch task search P → Q
of_search Searching search is follows here = follows search here
of_search RecordingAlone search is follows here = absurd cc
of_search (Alone lone) search is follows here = follows search here

pub searches : (search : Search) (w : FileStream) (cause : PlanCause) → CanSearchFirst search w (length w.starts) →
    RefusesSearch search w cause → ⊥
searches search w cause can r = no_plan_cause _ cause (can r.transfer r.there) r.refused

-- nor is that of a task which has one
pub can_search : (task : Task) (search : SearchFor task) → is_search task ≡ true → (w : FileStream) (cause : PlanCause) →
    IfSearch task search (λ found. CanSearchFirst found w (length w.starts)) →
    IfSearch task search (λ found. RefusesSearch found w cause) → ⊥
can_search Searching search is w cause can r = searches search w cause can r
can_search RecordingAlone search is w cause can r = absurd cc
can_search (Alone lone) search is w cause can r = searches search w cause can r

pub records : (task : Task) (s : SettingsFor task) (w : FileStream) (cause : RecordingCause) →
    (s.recording ≡ true → CanRecordFirst s.file_size w (length w.starts)) → RefusesToRecord task s w cause → ⊥
records task s w cause can r = no_recording_cause _ cause (can r.records r.transfer r.there) r.refused

module _ (task : Task) (words : List (List ℕ)) (inputs : InputsSeen) (is_calm : Type 0) (blocks : Option Finished)
    (n : ℕ) (judged : JudgesWords task words n) (read : ReadsInputs task words inputs is_calm n)
    (stopped : StopsAtFiles task words inputs.told blocks n) (s : SettingsFor task) (files : List (List ℕ))
    (says : Says task words s) (are : AreTold inputs.told s.names files)
    (begins : CanBegin task s (stream_for s files)) (whole : walk_stop (stream_for s files) ≡ walk.Whole)
    (calm : is_calm ⊎ (¬ Rose inputs.faults_before inputs.faults_after)) where
  abbrev w : FileStream
  w = stream_for s files

  not_three : (at : Option Finished) → blocks ≡ at → n ≢ 3
  not_three None is e =
      let r = stopped.first_header e is in
      firsts_accepted task words inputs.told s files r.0 r.1 says (told_at inputs.told s.names files are)
      begins.accepted r.2
  not_three (Some b) is e =
      let r = stopped.later_header e (subst IsSome (sym is) refl) in
      let x = r.1.says s files says (told_at inputs.told s.names files are) in
      no_stop w.max_bytes (walk_stop w) _ whole x.0.2

  not_four_by : ((cause : PlanCause) × RefusesSearches task words inputs.told cause)
      ⊎ ((cause : RecordingCause) × RefusesRecordings task words inputs.told cause) → ⊥
  not_four_by (inl r) = can_search task s.search r.1.0 w r.0 begins.searched
      (r.1.1.1 s files says (told_at inputs.told s.names files are))
  not_four_by (inr r) = records task s w r.0 begins.recorded
      (r.1.1 s files says (told_at inputs.told s.names files are))

  not_six_by : is_calm ⊎ (¬ Rose inputs.faults_before inputs.faults_after) → n ≢ 6
  not_six_by (inl is) e = read.serves is s says (holds_all inputs.told s.names files are) e
  not_six_by (inr still) e = still (read.failed e)

  not_seven : n ≢ 7
  not_seven e =
      let r = stopped.gap e in
      let x = r.1.says s files says (told_at inputs.told s.names files are) in
      no_stop w.max_bytes (walk_stop w) _ whole x.0.3

  pub at_none : ¬ Contains (2 ∷ 3 ∷ 4 ∷ 6 ∷ 7 ∷ 8 ∷ []) n
  at_none (zero, below, is) = judged.refused (sym is) s says
  at_none (suc zero, below, is) = not_three blocks refl (sym is)
  at_none (suc (suc zero), below, is) = not_four_by (stopped.plan (sym is))
  at_none (suc (suc (suc zero)), below, is) = not_six_by calm (sym is)
  at_none (suc (suc (suc (suc zero))), below, is) = not_seven (sym is)
  at_none (suc (suc (suc (suc (suc zero)))), below, is) =
      let r = stopped.too_long (sym is) in
      let x = r.1.says s files says (told_at inputs.told s.names files are) in
      no_stop w.max_bytes (walk_stop w) _ whole x.0
  at_none (suc (suc (suc (suc (suc (suc k))))), below, is) = omega (arith, below)

pub goes_on : (is_calm : Type 0) → AcceptedGoesOn is_calm
goes_on is_calm task words inputs blocks n judged read stopped s files says are begins whole calm =
    at_none task words inputs is_calm blocks n judged read stopped s files says are begins whole calm

pub is_not_refused : AcceptedIsNotRefused
is_not_refused = record {
  header = λ w file cause walked. first_accepted w file cause walked;
  firsts = λ task words told s files file cause says are walked.
      firsts_accepted task words told s files file cause says are walked;
  search = λ search w cause can. searches search w cause can;
  recording = λ task s w cause can. records task s w cause can;
}
