-- Files that are told, by the settings and by the feeder's plan.
use Rattle.std.proofs.Common.{◌≡◌, ℕ, ◌+◌, ◌<◌, List, [], Option, None, length, sym, ap, ◌∙◌, subst}
use Rattle.std.specs.Prelude.{⊤, IsSome, slice_index_or}
use Rattle.std.specs.Option.{ForSome}
use Rattle.psr_base.specs.Told.{Told, OfFile}
use Rattle.search_words.specs.Settings.{SettingsOf}
use Rattle.search_model.specs.declared.search.Search.{Search}
use Rattle.dada_header.specs.Faults.{IsHeaderRefusal}
use Rattle.stream_model.specs.Walk.{FileStream, observation_at, stop_at}
use Rattle.stream_model.specs.WalkLaws.{IsAccepted}
use Rattle.stream_model.specs.Recorded.{record_refusal}
use Rattle.search_model.specs.Plan.{plan_refusal}
use Rattle.obs_plan.specs.declared.fault.ObsFault.{ObsFault}
use Rattle.run_outcome.specs.declared.causes.PlanCause.{PlanCause}
use Rattle.run_outcome.specs.declared.causes.RecordingCause.{RecordingCause}
use Rattle.disk_feeder.specs.declared.answers.HeaderCause.TheVariants.{Text, Fields}
use Rattle.disk_feeder.specs.declared.feeder.Feeder.{Feeder}
use Rattle.disk_feeder.specs.declared.place.Place.{Place}
use Rattle.disk_feeder.specs.Feeder.{HasPlan, plan_at}
use Rattle.disk_feeder.specs.Feeding.{IsCutPast}
use Rattle.disk_feeder.specs.Filling.{HoldsAll}
use Rattle.disk_feeder.specs.History.{file_name}
use Rattle.disk_feeder.specs.Plan.{Plan as FeedPlan, stream_of, AreTold, AreToldAt, IsFirstFile}
use Rattle.disk_feeder.specs.Reading.{NoStopBefore}
use Rattle.run_outcome.specs.declared.stop.Stop.{Stop}
use Rattle.run_outcome.specs.declared.stop.Stop.TheVariants.{Words, Value, Header, Plan, Recording, Memory, ReadFault, Gap, TooLong, TooMany, SinkFault, FileFault}
use Rattle.run_outcome.specs.Firsts.{first_name, EachFirst, HasHeader, RefusesFields, RefusesFieldsAt, RefusesFirstFields}
use Rattle.run_outcome.specs.Runs.{Task, SettingsFor, IfSearch, CanSearch, CanRecord, CanBegin, recording_of, IsPlanCause, IsRecordingCause, RefusesSearch, RefusesSearchAt, RefusesToRecord, RefusesRecordingAt, stream_for}
use Rattle.search_opening.specs.Early.{SaysEarly, StopsEarly}
use Rattle.search_opening.specs.Ended.{CutsStayTold, FirstsStayTold}
use Rattle.search_opening.proofs.Purposes.{if_search}
use Rattle.search_opening.specs.Settings.{OfRun, OfRunAt, JudgesRun, BeginsRun, PassesRunTo}

-- files are told as long as what is told under the names stands
pub still_told : (Needed : ℕ → Type 0) (old new : Told) (names files : List (List ℕ)) →
    new.bytes_under ≡ old.bytes_under → AreToldAt Needed old names files → AreToldAt Needed new names files
still_told Needed old new names files same are = record {
  count = are.count;
  each = λ k below needed.
      ap (λ (under : List ℕ → Option (List ℕ)). under (slice_index_or names k [])) same ∙ are.each k below needed;
}

pub firsts_stay : FirstsStayTold
firsts_stay names starts old new files same are =
    still_told (IsFirstFile starts (length names)) old new names files same are

-- what was sealed at a fault is so whatever the first headers are
with_headers : (names : List (List ℕ)) (starts : List ℕ) (limit : ℕ) (plan plan' : FeedPlan) (old new : Told)
    (at : Place) (size : ℕ) (blocks : List _) → new.bytes_under ≡ old.bytes_under →
    IsCutPast (record plan { names = names; starts = starts; max_bytes = limit }) new at size blocks →
    IsCutPast (record plan' { names = names; starts = starts; max_bytes = limit }) old at size blocks
with_headers names starts limit plan plan' old new at size blocks same cut = record {
  inside = record { there = cut.inside.there; from = cut.inside.from; before = cut.inside.before };
  before = cut.before;
  current = cut.current;
  transfers = cut.transfers;
  since = cut.since;
  begin = record {
    here = λ k from up files are.
        cut.begin.here k from up files (still_told (λ j. j < k) old new names files same are);
    past = λ transfer k earlier from up files are.
        cut.begin.past transfer k earlier from up files (still_told (λ j. j < k) old new names files same are);
  };
  few = cut.few;
  stream = cut.stream;
}

pub cuts_stay : CutsStayTold
cuts_stay plan plan' old new at size blocks names starts limit same cut =
    let P : FeedPlan → Type 0 = λ p. IsCutPast p old at size blocks in
    subst (λ (n : ℕ). P (record plan' { max_bytes = n })) limit
    (subst (λ (st : List ℕ). P (record plan' { starts = st; max_bytes = plan.max_bytes })) starts
    (subst (λ (ns : List (List ℕ)). P (record plan' {
      names = ns;
      starts = plan.starts;
      max_bytes = plan.max_bytes;
    })) names (with_headers plan.names plan.starts plan.max_bytes plan plan' old new at size blocks same cut)))

-- inputs that hold all files hold them still
pub hold_still : (old new : Told) (names names' : List (List ℕ)) → new.bytes_under ≡ old.bytes_under →
    names' ≡ names → HoldsAll old names → HoldsAll new names'
hold_still old new names names' same are holds =
    let Holds : List (List ℕ) → Type 0 = λ ns. HoldsAll new ns in
    subst Holds (sym are) (λ k below.
    subst (λ (under : List ℕ → Option (List ℕ)). IsSome (under (slice_index_or names k []))) (sym same) (holds k below))

-- what holds of a file that is told
pub of_file : (old new : Told) (name : List ℕ) (P : List ℕ → Type 0) → new.bytes_under ≡ old.bytes_under →
    OfFile new name P → OfFile old name P
of_file old new name P same holds =
    subst (λ (under : List ℕ → Option (List ℕ)). ForSome (under name) P) same holds

-- the feeder of a run reads the files of its settings
abbrev pub FeedsRun : {I S : Type 0} → Feeder I → SettingsOf S → Type 0
FeedsRun feeder s = HasPlan feeder s.names s.starts s.size s.max_bytes

pub same_stream : {I S : Type 0} (feeder : Feeder I) (s : SettingsOf S) (files : List (List ℕ)) → FeedsRun feeder s →
    stream_of (plan_at feeder) files ≡ stream_for s files
same_stream feeder s files plan =
    ap (λ (starts : List ℕ). record { files = files; starts = starts; max_bytes = (plan_at feeder).max_bytes })
    plan.transfers
    ∙ ap (λ (limit : ℕ). record { files = files; starts = s.starts; max_bytes = limit }) plan.limit

-- What holds of the feeder's files holds of those of the settings. Which are needed is said by the starts of the
-- transfers and the count of the files.
pub of_plan : {I S : Type 0} (Needed : List ℕ → ℕ → ℕ → Type 0) (feeder : Feeder I) (s : SettingsOf S) (old new : Told)
    (P : FileStream → Type 0) → FeedsRun feeder s → new.bytes_under ≡ old.bytes_under →
    ((files : List (List ℕ)) →
    AreToldAt (Needed (plan_at feeder).starts (length (plan_at feeder).names)) new (plan_at feeder).names files →
    P (stream_of (plan_at feeder) files)) →
    OfRunAt (Needed s.starts (length s.names)) old s P
of_plan Needed feeder s old new P plan same holds files are =
    let Names : List (List ℕ) → Type 0 = λ names. AreToldAt (Needed s.starts (length names)) new names files in
    let Starts : List ℕ → Type 0 = λ starts.
    AreToldAt (Needed starts (length (plan_at feeder).names)) new (plan_at feeder).names files in
    subst P (same_stream feeder s files plan)
    (holds files (subst Starts (sym plan.transfers) (subst Names (sym plan.files)
    (still_told (Needed s.starts (length s.names)) old new s.names files same are))))

-- of all files, what holds of the feeder's where all of these are told
pub all_of_plan : {I S : Type 0} (feeder : Feeder I) (s : SettingsOf S) (old new : Told) (P : FileStream → Type 0) →
    FeedsRun feeder s → new.bytes_under ≡ old.bytes_under →
    ((files : List (List ℕ)) → AreTold new (plan_at feeder).names files → P (stream_of (plan_at feeder) files)) →
    OfRun old s P
all_of_plan feeder s old new P plan same holds files are =
    of_plan (λ starts count k. ⊤) feeder s old new P plan same
    (λ fs each. holds fs (record { count = each.count; each = λ k below. each.each k below tt })) files
    (record { count = are.count; each = λ k below needed. are.each k below })

-- no file before this one stops the walk
pub passes_run : {I S : Type 0} (feeder : Feeder I) (s : SettingsOf S) (old new : Told) (file : ℕ) → FeedsRun feeder s →
    new.bytes_under ≡ old.bytes_under → NoStopBefore (plan_at feeder) new file → PassesRunTo file old s
passes_run feeder s old new file plan same passed k below =
    of_plan (λ starts count j. j < k + 1) feeder s old new (λ w. stop_at w k ≡ None) plan same (passed k below)

pub before_reading : {S : Type 0} (Needed : ℕ → Type 0) (s : SettingsOf S) (old new : Told) (P : FileStream → Type 0) →
    new.bytes_under ≡ old.bytes_under → OfRunAt Needed new s P → OfRunAt Needed old s P
before_reading Needed s old new P same holds files are =
    holds files (still_told Needed old new s.names files same are)

-- what is said of the feeder's names and starts is said of those of the settings
pub of_names : {I S : Type 0} (feeder : Feeder I) (s : SettingsOf S) (P : List (List ℕ) → List ℕ → Type 0) →
    FeedsRun feeder s → P (plan_at feeder).names (plan_at feeder).starts → P s.names s.starts
of_names feeder s P plan holds =
    subst (λ names. P names s.starts) plan.files
    (subst (λ starts. P (plan_at feeder).names starts) plan.transfers holds)

-- what is said of the first files that are told, each by itself
pub each_stands : (old new : Told) (names : List (List ℕ)) (starts : List ℕ) (count : ℕ) (P : List ℕ → Type 0) →
    new.bytes_under ≡ old.bytes_under → EachFirst new names starts count P → EachFirst old names starts count P
each_stands old new names starts count P same each k below =
    of_file old new (first_name names starts k) P same (each k below)

pub judged_before_reading : {S : Type 0} (s : SettingsOf S) (old new : Told) (Each : Told → Type 0) (P : FileStream → Type 0) →
    new.bytes_under ≡ old.bytes_under → (Each new → Each old) → JudgesRun new s (Each new) P →
    JudgesRun old s (Each old) P
judged_before_reading s old new Each P same stands judges =
    (stands judges.0, before_reading (IsFirstFile s.starts (length s.names)) s old new P same judges.1)

pub begins_before_reading : (task : Task) (s : SettingsFor task) (old new : Told) → new.bytes_under ≡ old.bytes_under →
    BeginsRun task new s → BeginsRun task old s
begins_before_reading task s old new same begins = (
  record {
    accepted = each_stands old new s.names s.starts (length s.starts) IsAccepted same begins.0.accepted;
    searched = if_search task s.search (λ search. each_stands old new s.names s.starts (length s.starts)
        (CanSearch search) same) begins.0.searched;
    recorded = λ is. each_stands old new s.names s.starts (length s.starts) (CanRecord s.file_size s.max_bytes) same
        (begins.0.recorded is);
  },
  before_reading (IsFirstFile s.starts (length s.names)) s old new (λ w. CanBegin task s w) same begins.1,
)

fields_stand : (names : List (List ℕ)) (starts : List ℕ) (file : ℕ) (fault : ObsFault) (old new : Told) →
    new.bytes_under ≡ old.bytes_under → RefusesFieldsAt new names starts file fault →
    RefusesFieldsAt old names starts file fault
fields_stand names starts file fault old new same r = record {
  texts = each_stands old new names starts (length starts) HasHeader same r.texts;
  transfer = r.transfer;
  there = r.there;
  is = r.is;
  refused = of_file old new (file_name names file) (λ bytes. RefusesFields bytes fault) same r.refused;
  earlier = each_stands old new names starts r.transfer IsAccepted same r.earlier;
}

search_stands : {S : Type 0} (search : Search) (s : SettingsOf S) (cause : PlanCause) (old new : Told) →
    new.bytes_under ≡ old.bytes_under → RefusesSearchAt search s new cause → RefusesSearchAt search s old cause
search_stands search s cause old new same r = record {
  accepted = each_stands old new s.names s.starts (length s.starts) IsAccepted same r.accepted;
  transfer = r.transfer;
  there = r.there;
  refused = of_file old new (first_name s.names s.starts r.transfer)
      (λ file. IsPlanCause (plan_refusal (observation_at file) search) cause) same r.refused;
  earlier = each_stands old new s.names s.starts r.transfer (CanSearch search) same r.earlier;
}

recording_stands : (task : Task) (s : SettingsFor task) (cause : RecordingCause) (old new : Told) →
    new.bytes_under ≡ old.bytes_under → RefusesRecordingAt task s new cause → RefusesRecordingAt task s old cause
recording_stands task s cause old new same r = record {
  accepted = each_stands old new s.names s.starts (length s.starts) IsAccepted same r.accepted;
  searched = if_search task s.search
      (λ search. each_stands old new s.names s.starts (length s.starts) (CanSearch search) same) r.searched;
  records = r.records;
  transfer = r.transfer;
  there = r.there;
  refused = of_file old new (first_name s.names s.starts r.transfer)
      (λ file. IsRecordingCause (record_refusal (recording_of s.file_size file) s.max_bytes) cause) same r.refused;
  earlier = each_stands old new s.names s.starts r.transfer (CanRecord s.file_size s.max_bytes) same r.earlier;
}

pub says_before_reading : (task : Task) (s : SettingsFor task) (old new : Told) (stop : Stop) →
    new.bytes_under ≡ old.bytes_under → SaysEarly task s new stop → SaysEarly task s old stop
says_before_reading task s old new Words same says = absurd says
says_before_reading task s old new (Value opt) same says = absurd says
says_before_reading task s old new (Header file (Text fault)) same says = record {
  transfer = says.transfer;
  there = says.there;
  is = says.is;
  refused = of_file old new (file_name s.names file) (λ bytes. IsHeaderRefusal bytes fault) same says.refused;
  earlier = each_stands old new s.names s.starts says.transfer HasHeader same says.earlier;
}
says_before_reading task s old new (Header file (Fields fault)) same says =
    judged_before_reading s old new (λ told. RefusesFieldsAt told s.names s.starts file fault)
    (λ w. RefusesFirstFields w file fault) same (fields_stand s.names s.starts file fault old new same) says
says_before_reading task s old new (Plan cause) same says = (
  says.0,
  judged_before_reading s old new
      (λ told. IfSearch task s.search (λ search. RefusesSearchAt search s told cause))
      (λ w. IfSearch task s.search (λ search. RefusesSearch search w cause)) same
      (if_search task s.search (λ search. search_stands search s cause old new same)) says.1,
)
says_before_reading task s old new (Recording cause) same says =
    judged_before_reading s old new (λ told. RefusesRecordingAt task s told cause)
    (λ w. RefusesToRecord task s w cause) same (recording_stands task s cause old new same) says
says_before_reading task s old new Memory same says = tt
says_before_reading task s old new ReadFault same says = tt
says_before_reading task s old new (Gap file expected found) same says = absurd says
says_before_reading task s old new (TooLong limit) same says = absurd says
says_before_reading task s old new (TooMany count limit) same says = absurd says
says_before_reading task s old new SinkFault same says = absurd says
says_before_reading task s old new FileFault same says = absurd says

pub stops_before_reading : (task : Task) (s : SettingsFor task) (old new : Told) (stop : Stop) →
    new.bytes_under ≡ old.bytes_under → StopsEarly task s new stop → StopsEarly task s old stop
stops_before_reading task s old new stop same stops = record {
  kind = stops.kind;
  says = says_before_reading task s old new stop same stops.says;
}
