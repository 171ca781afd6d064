-- How a run is opened, or stops before its session.
use Rattle.std.proofs.Common.{◌≡◌, ◌≢◌, ℕ, ◌+◌, ◌/◌, ◌≤◌, ◌⊎◌, true, List, Option, Some, None, All, Result, Ok, Err, length, inl, inr, refl, sym, ap, ◌∙◌, subst, arith}
use Rattle.std.specs.Prelude.{slice_get, IfErr, OnErr, IsSome, is_some}
use Rattle.std.proofs.lemmas.Option.{get_or_from_slice_get, slice_get-get_or}
use Rattle.psr_base.specs.Told.{Told}
use Rattle.dada_model.specs.Fields.{HeaderText}
use Rattle.dada_model.specs.Observation.{Observation}
use Rattle.search_words.specs.Settings.{SettingsOf, RunSeen, with_search}
use Rattle.disk_feeder.specs.declared.answers.HeaderCause.TheVariants.{Text, Fields}
use Rattle.disk_feeder.specs.declared.feeder.Feeder.{Feeder}
use Rattle.disk_feeder.specs.Feeder.{SamePlan, block_size, headers_of, names_at, plan_at}
use Rattle.disk_feeder.specs.Plan.{IsFirstFile}
use Rattle.search_opening.specs.Feeders.{HasReadOnly, HasReadFirsts, StopsReadingFirsts, HasAcceptedFirsts}
use Rattle.search_opening.specs.First.{AreFirsts, AreFirstsAt, AreHeadersOf, AreObserved, ComesFirst, StopsFirsts}
use Rattle.search_opening.specs.Offsets.{AreOffsetsOf}
use Rattle.search_opening.specs.Plans.{PlansFit, IsOfPlan, RefusesObservation, StopsSearch}
use Rattle.search_opening.specs.Recordings.{RecordingsFit, IsOfRecording, StopsRecording}
use Rattle.search_opening.specs.Space.{FeedsRings}
use Rattle.run_outcome.specs.declared.stop.Stop.{Stop}
use Rattle.run_outcome.specs.declared.stop.Stop.TheVariants.{Words, Value, Header, Plan, Recording, Memory, ReadFault, Gap, TooLong, TooMany, SinkFault, FileFault}
use Rattle.run_outcome.specs.Ends.{ComesBefore}
use Rattle.run_outcome.specs.Firsts.{ReadsFirsts, RefusesTextAt, RefusesFieldsAt, BreaksFirstAt, RefusesFirstFields}
use Rattle.run_outcome.specs.declared.causes.PlanCause.{PlanCause}
use Rattle.run_outcome.specs.declared.causes.RecordingCause.{RecordingCause}
use Rattle.run_outcome.specs.Runs.{Task, Searching, RecordingAlone, Alone, SettingsFor, is_search, IfSearch, MayBegin, RefusesSearch, RefusesSearchAt, RefusesToRecord, RefusesRecordingAt, stream_for}
use Rattle.search_opening.specs.declared.spaces.Spaces.{Spaces}
use Rattle.search_opening.specs.Settings.{CanBeDriven, OfRunFirsts, JudgesRun}
use Rattle.search_opening.specs.Early.{SaysEarly, StopsEarly, LeavesEarly}
use Rattle.search_opening.specs.Begun.{HasFirsts, HasBegun}
use Rattle.search_opening.specs.Judged.{AreFit, RefusesRecorded, RefusesJudged, IsRefused}
use Rattle.search_opening.specs.Ready.{IsOpened}
use Rattle.search_opening.specs.Spaces.{AreSpaces, shape_for}
use Rattle.search_opening.proofs.Purposes.{if_search}
use Rattle.search_opening.proofs.Observed.{as_many, some_at}
use Rattle.search_opening.proofs.Stopping.{plan_fits, can_search, refuses_search, refuses_recording, each_accepted, each_searched, each_recorded, refuses_search_at, refuses_recording_at}
use Rattle.search_opening.proofs.Told.{FeedsRun, of_plan, of_names}

-- ---- what is refused

pub if_err : {T E : Type 0} (P Q : E → Type 0) (R : Type 0) (r : Result T E) → ((e : E) → P e → R → Q e) →
    IfErr r P → OnErr r R → IfErr r Q
if_err P Q R (Ok x) so is on = tt
if_err P Q R (Err e) so is on = so e is on

pub both_err : {T E : Type 0} (P Q : E → Type 0) (r : Result T E) → IfErr r P → IfErr r Q → IfErr r (λ e. P e × Q e)
both_err P Q (Ok x) one other = tt
both_err P Q (Err e) one other = (one, other)

refuses_judged : (task : Task) (s : SettingsFor task) (headers : List HeaderText)
    (observations : List (Option Observation)) (stop : Stop) → is_search task ≡ true →
    IfSearch task s.search (λ search. StopsSearch search observations stop) →
    RefusesJudged task s headers observations stop
refuses_judged Searching s headers observations stop is refused =
    subst (λ e. RefusesJudged Searching s headers observations e) (sym refused.1) (is, refused.2)
refuses_judged RecordingAlone s headers observations stop is refused = absurd cc
refuses_judged (Alone lone) s headers observations stop is refused =
    subst (λ e. RefusesJudged (Alone lone) s headers observations e) (sym refused.1) (is, refused.2)

pub search_refused : (task : Task) (s : SettingsFor task) (headers : List HeaderText)
    (observations : List (Option Observation)) (stop : Stop) → is_search task ≡ true → IsOfPlan stop →
    IfSearch task s.search (λ search. StopsSearch search observations stop) →
    IsRefused task s headers observations stop
search_refused task s headers observations stop is kind refused = record {
  kind = subst ComesBefore (sym kind.1) tt;
  readable = λ fault. let both = sym kind.1 ∙ fault in absurd cc;
  says = refuses_judged task s headers observations stop is refused;
}

pub recording_refused : (task : Task) (s : SettingsFor task) (headers : List HeaderText)
    (observations : List (Option Observation)) (stop : Stop) →
    IfSearch task s.search (λ search. PlansFit search observations) →
    ((stop ≡ Memory) ⊎ IsOfRecording stop)
    × ((stop ≡ Memory) ⊎ StopsRecording s.file_size s.max_bytes headers observations stop) →
    s.recording ≡ true → IsRefused task s headers observations stop
recording_refused task s headers observations stop searched refused records = record {
  kind = kind_of refused.0;
  readable = readable_of refused.0;
  says = says_of refused.1;
}
  where
    kind_of : (stop ≡ Memory) ⊎ IsOfRecording stop → ComesBefore stop
    kind_of (inl is) = subst ComesBefore (sym is) tt
    kind_of (inr is) = subst ComesBefore (sym is.1) tt

    readable_of : (stop ≡ Memory) ⊎ IsOfRecording stop → stop ≢ ReadFault
    readable_of (inl is) fault = let both = sym is ∙ fault in absurd cc
    readable_of (inr is) fault = let both = sym is.1 ∙ fault in absurd cc

    says_of : (stop ≡ Memory) ⊎ StopsRecording s.file_size s.max_bytes headers observations stop →
        RefusesJudged task s headers observations stop
    says_of (inl is) = subst (λ e. RefusesJudged task s headers observations e) (sym is) tt
    says_of (inr why) = subst (λ e. RefusesJudged task s headers observations e) (sym why.1)
        (record { searched = searched; records = records; refused = why.2 })

-- what is refused of first headers is refused of the files of the run
module _ (task : Task) (s : SettingsFor task) (headers : List HeaderText) (observations : List (Option Observation))
    (told : Told) (observed : AreObserved headers observations) (many : length headers ≡ length s.starts)
    (each : AreFirstsAt told s.names s.starts headers observations)
    (firsts : OfRunFirsts told s (λ w. AreFirsts w observations))
    (are : OfRunFirsts told s (λ w. AreHeadersOf w headers)) where
  as_starts : length observations ≡ length s.starts
  as_starts = as_many headers observations observed ∙ many

  search_says : (cause : PlanCause) → IfSearch task s.search (λ search. RefusesObservation search observations cause) →
      JudgesRun told s (IfSearch task s.search (λ search. RefusesSearchAt search s told cause))
      (λ w. IfSearch task s.search (λ search. RefusesSearch search w cause))
  search_says cause refuses = (
    if_search task s.search
        (λ search r. refuses_search_at told s headers observations each as_starts search cause r) refuses,
    λ files given. if_search task s.search
        (λ search r. refuses_search (stream_for s files) observations (firsts files given) search cause r) refuses,
  )

  recording_says : (cause : RecordingCause) → RefusesRecorded task s headers observations cause →
      JudgesRun told s (RefusesRecordingAt task s told cause) (λ w. RefusesToRecord task s w cause)
  recording_says cause refuses = (
    refuses_recording_at told task s headers observations each as_starts cause
        (if_search task s.search (λ search fit.
        each_searched told s headers observations each search (length s.starts) (omega arith)
        (λ k o below. plan_fits search observations fit k o)) refuses.searched)
        refuses.records refuses.refused,
    λ files given.
        let w = stream_for s files in
        refuses_recording w observations headers (firsts files given) (are files given)
        (as_many headers observations observed) task s cause
        (if_search task s.search (λ search fit.
        can_search w observations (firsts files given) search (length w.starts) (omega arith)
        (λ k o below. plan_fits search observations fit k o)) refuses.searched)
        refuses.records refuses.refused,
  )

  pub refusal_says : (stop : Stop) → RefusesJudged task s headers observations stop → SaysEarly task s told stop
  refusal_says Words says = absurd says
  refusal_says (Value opt) says = absurd says
  refusal_says (Header file cause) says = absurd says
  refusal_says (Plan cause) says = (says.0, search_says cause says.1)
  refusal_says (Recording cause) says = recording_says cause says
  refusal_says Memory says = tt
  refusal_says ReadFault says = absurd says
  refusal_says (Gap file expected found) says = absurd says
  refusal_says (TooLong limit) says = absurd says
  refusal_says (TooMany count limit) says = absurd says
  refusal_says SinkFault says = absurd says
  refusal_says FileFault says = absurd says

-- a first header is refused, or could not be read
firsts_say : {I : Type 0} (task : Task) (s : SettingsFor task) (feeder : Feeder I) (told : Told) (stop : Stop) →
    FeedsRun feeder s → StopsFirsts told (plan_at feeder) stop → SaysEarly task s told stop
firsts_say task s feeder told Words plan says = absurd says
firsts_say task s feeder told (Value opt) plan says = absurd says
firsts_say task s feeder told (Header file (Text fault)) plan says =
    of_names feeder s (λ names starts. RefusesTextAt told names starts file fault) plan says
firsts_say task s feeder told (Header file (Fields fault)) plan says = (
  of_names feeder s (λ names starts. RefusesFieldsAt told names starts file fault) plan says.0,
  of_plan IsFirstFile feeder s told told (λ w. RefusesFirstFields w file fault) plan refl says.1,
)
firsts_say task s feeder told (Plan cause) plan says = absurd says
firsts_say task s feeder told (Recording cause) plan says = absurd says
firsts_say task s feeder told Memory plan says = tt
firsts_say task s feeder told ReadFault plan says = tt
firsts_say task s feeder told (Gap file expected found) plan says = absurd says
firsts_say task s feeder told (TooLong limit) plan says = absurd says
firsts_say task s feeder told (TooMany count limit) plan says = absurd says
firsts_say task s feeder told SinkFault plan says = absurd says
firsts_say task s feeder told FileFault plan says = absurd says

first_comes : (stop : Stop) → ComesFirst stop → ComesBefore stop
first_comes Words kind = absurd kind
first_comes (Value opt) kind = absurd kind
first_comes (Header file cause) kind = tt
first_comes (Plan cause) kind = absurd kind
first_comes (Recording cause) kind = absurd kind
first_comes Memory kind = tt
first_comes ReadFault kind = tt
first_comes (Gap file expected found) kind = absurd kind
first_comes (TooLong limit) kind = absurd kind
first_comes (TooMany count limit) kind = absurd kind
first_comes SinkFault kind = absurd kind
first_comes FileFault kind = absurd kind

pub firsts_stop : {I : Type 0} (told : I → Told) (is_calm : I → Type 0) (task : Task) (s : SettingsFor task)
    (old new : Feeder I) (stop : Stop) → FeedsRun old s → StopsReadingFirsts told is_calm old new stop →
    StopsEarly task s (told old.inputs.now) stop
firsts_stop told is_calm task s old new stop plan stops = record {
  kind = first_comes stop stops.kind;
  says = firsts_say task s old (told old.inputs.now) stop plan stops.stopped;
}

-- nothing that is told of first files stands against a run that fits
may_begin : (task : Task) (s : SettingsFor task) (headers : List HeaderText) (observations : List (Option Observation))
    (told : Told) → AreObserved headers observations → length headers ≡ length s.starts →
    AreFirstsAt told s.names s.starts headers observations → AreFit task s headers observations →
    MayBegin task s told
may_begin task s headers observations told observed many each fit = record {
  accepted = each_accepted told s headers observations each;
  searched = if_search task s.search (λ search fits.
      each_searched told s headers observations each search (length s.starts) (omega arith)
      (λ k o below. plan_fits search observations fits k o)) fit.fits;
  recorded = λ is. each_recorded told s headers observations each s.file_size s.max_bytes (length s.starts)
      (omega arith)
      (subst (RecordingsFit s.file_size s.max_bytes headers observations)
      (as_many headers observations observed ∙ many) (fit.can is));
}

-- ---- what is opened

plan_stays : {I S : Type 0} (s : SettingsOf S) (old new : Feeder I) → FeedsRun old s → SamePlan old new → FeedsRun new s
plan_stays s old new plan same = record {
  files = same.names ∙ plan.files;
  transfers = same.starts ∙ plan.transfers;
  limit = same.limit ∙ plan.limit;
  block = same.size ∙ plan.block;
  headers = same.headers ∙ plan.headers;
}

-- the first headers were read by the feeder of a run
has_firsts : {I : Type 0} (told : I → Told) (is_open : I → Type 0) (s : RunSeen) (old new : Feeder I)
    (observations : List (Option Observation)) → FeedsRun old s → SamePlan old new →
    HasReadFirsts told is_open old new observations → HasFirsts told is_open s new observations
has_firsts told is_open s old new observations plan same read =
    let now = told new.inputs.now in
    let plan' = plan_stays s old new plan same in
    record {
      plan = plan';
      begun = read.begun;
      file = read.file;
      observed = read.observed;
      each = of_names new s (λ names starts. AreFirstsAt now names starts (headers_of new) observations) plan'
          read.each;
      firsts = of_plan IsFirstFile new s now now (λ w. AreFirsts w observations) plan' refl read.firsts;
      headers = of_plan IsFirstFile new s now now (λ w. AreHeadersOf w (headers_of new)) plan' refl read.headers;
    }

-- those of its settings' files, and nothing else was
reads_only : {I : Type 0} (told : I → Told) (s : RunSeen) (old new : Feeder I) → FeedsRun old s →
    HasReadOnly told old new →
    OfRunFirsts (told old.inputs.now) s (λ w. ReadsFirsts s.names w (told old.inputs.now) (told new.inputs.now))
reads_only told s old new plan read =
    let before = told old.inputs.now in
    let after = told new.inputs.now in
    let Names : List (List ℕ) → Type 0 = λ names. OfRunFirsts before s (λ w. ReadsFirsts names w before after) in
    subst Names plan.files
    (of_plan IsFirstFile old s before before (λ w. ReadsFirsts (names_at old) w before after) plan refl read)

pub has_begun : {I : Type 0} (told : I → Told) (is_open : I → Type 0) (s : RunSeen) (old new : Feeder I)
    (observations : List (Option Observation)) → FeedsRun old s → SamePlan old new →
    HasReadFirsts told is_open old new observations → HasBegun told is_open s old new observations
has_begun told is_open s old new observations plan same read = record {
  firsts = has_firsts told is_open s old new observations plan same read;
  only = reads_only told s old new plan read.read;
  reads = read.begins;
}

-- what a run has read that stopped so
pub leaves_early : {I : Type 0} (told : I → Told) (is_calm : I → Type 0) (s : RunSeen) (old new : Feeder I)
    (stop : Stop) → FeedsRun old s → StopsReadingFirsts told is_calm old new stop →
    LeavesEarly s (is_calm old.inputs.now) (told old.inputs.now) (told new.inputs.now) stop
leaves_early told is_calm s old new stop plan stops = record {
  unread = λ want. reads_only told s old new plan (stops.unread want);
  broke = λ failed. of_names old s (λ names starts.
      BreaksFirstAt names starts (is_calm old.inputs.now) (told old.inputs.now) (told new.inputs.now)) plan
      (stops.broke failed);
}

-- once they were read, it stops for want of memory, or for what was judged of them
pub leaves_opening : {I T : Type 0} (told : I → Told) (is_calm : Type 0) (s : RunSeen) (old mid new : I)
    (r : Result T Stop) →
    OfRunFirsts (told old) s (λ w. ReadsFirsts s.names w (told old) (told mid)) → new ≡ mid →
    r ≢ Err ReadFault → IfErr r (LeavesEarly s is_calm (told old) (told new))
leaves_opening told is_calm s old mid new (Ok x) only same readable = tt
leaves_opening told is_calm s old mid new (Err stop) only same readable =
    let Reads : _ → Type 0 = λ i. OfRunFirsts (told old) s (λ w. ReadsFirsts s.names w (told old) (told i)) in
    record {
      unread = λ want. subst Reads (sym same) only;
      broke = λ failed. absurd (readable (ap Err failed));
    }

feeds_rings : {I S : Type 0} (told : I → Told) (is_open : I → Type 0) (s : SettingsOf S) (old new : Feeder I)
    (observations : List (Option Observation)) (header : HeaderText) (banks : ℕ) →
    HasFirsts told is_open (with_search tt s) old observations → HasAcceptedFirsts told old new →
    slice_get (headers_of old) 0 ≡ Some header → FeedsRings told is_open (shape_for s banks) header new
feeds_rings told is_open s old new observations header banks read is first =
    let plan = plan_stays s old new read.plan is.kept.plan in
    let Open : _ → Type 0 = is_open in
    record {
      first = ap (λ hs. slice_get hs 0) is.kept.headers ∙ first;
      feeds = is.feeds;
      running = is.kept.running;
      file = λ open_file. subst Open (sym is.inputs) (read.file (is.kept.reading open_file));
      size = sym plan.block;
      blocks = at_most _ _ (ap (λ n. n / block_size new + length (plan_at new).starts + 1) plan.limit
          ∙ ap (λ n. s.max_bytes / n + length (plan_at new).starts + 1) plan.block
          ∙ ap (λ starts. s.max_bytes / s.size + length starts + 1) plan.transfers);
    }
  where
    at_most : (a b : ℕ) → a ≡ b → a ≤ b
    at_most a b same = omega (arith, same)

-- there is an observation of each
pub all_there : (headers : List HeaderText) (observations given : List (Option Observation)) →
    AreObserved headers observations → given ≡ observations → All IsSome given
all_there headers observations given are same =
    subst (λ os. All IsSome os) (sym same) (λ k d below.
    let there = some_at headers observations are k below in
    let at = slice_get-get_or observations k None below ∙ ap (λ (o : Option Observation). Some o) there.1 in
    ap is_some (get_or_from_slice_get observations k (Some there.0) d at))

pub is_opened : {I F : Type 0} (told : I → Told) (is_open : I → Type 0) (task : Task) (s : SettingsFor task)
    (old new : Feeder I) (observations given : List (Option Observation)) (offsets lent : List ℕ) (header : HeaderText)
    (spaces : Spaces I F) → HasFirsts told is_open (with_search tt s) old observations → HasAcceptedFirsts told old new →
    CanBeDriven task s → slice_get (headers_of old) 0 ≡ Some header → given ≡ observations → lent ≡ offsets →
    AreSpaces task s given header lent spaces → AreFit task s (headers_of old) observations →
    AreOffsetsOf observations offsets → IsOpened told is_open task s new observations spaces
is_opened told is_open task s old new observations given offsets lent header spaces read is can first same_given
    same_lent spaces_are fit offsets_are =
    let spaces_are' = subst (λ os. AreSpaces task s os header offsets spaces) same_given
    (subst (λ ns. AreSpaces task s given header ns spaces) same_lent spaces_are) in
    let Observed : List HeaderText → Type 0 = λ hs. AreObserved hs observations in
    let Fit : List HeaderText → Type 0 = λ hs. AreFit task s hs observations in
    let range = can.range in
    record {
      offsets = offsets;
      ready = record {
        plan = plan_stays s old new read.plan is.kept.plan;
        faultless = is.kept.faultless;
        some = range.transfers.some;
        few = range.most_transfers;
        most = omega (arith, range.most_bytes);
        range = can.search;
        alone = can.records;
        header = header;
        stage_is = spaces_are'.stage_is;
        feeds = feeds_rings told is_open s old new observations header (length spaces_are'.stage_is.banks.items) read
            is first;
        observed = subst Observed (sym is.kept.headers) read.observed;
        fit = subst Fit (sym is.kept.headers) fit;
        offsets_are = offsets_are;
        begins = subst (λ i. MayBegin task s (told i)) (sym is.inputs) (may_begin task s (headers_of old) observations
            (told old.inputs.now) read.observed read.plan.headers read.each fit);
        firsts = subst (λ i. OfRunFirsts (told i) s (λ w. AreFirsts w observations)) (sym is.inputs) read.firsts;
        headers = subst (λ hs. OfRunFirsts (told new.inputs.now) s (λ w. AreHeadersOf w hs)) (sym is.kept.headers)
            (subst (λ i. OfRunFirsts (told i) s (λ w. AreHeadersOf w (headers_of old))) (sym is.inputs) read.headers);
      };
      recorder_is = spaces_are'.recorder_is;
    }
