-- What a run of a program is over: the settings that its words say, and the files that they name, as a walk sees them.
-- Source: PSRDADA manual (a transfer is what one header describes); what is refused is this project's choice.
use Rattle.std.specs.Prelude.{◌≡◌, ⊤, ℕ, ◌+◌, ◌^◌, ◌-◌, ◌<◌, ◌⊎◌, min, Bool, true, false, List, [], length, map, Option, Some, None}
use Rattle.std.specs.List.{range_with_len}
use Rattle.dada_model.specs.Fields.{header_of}
use Rattle.dada_model.specs.Observation.{Observation}
use Rattle.psr_base.specs.Told.{Told, OfFile}
use Rattle.search_model.specs.declared.search.Search.{Search}
use Rattle.search_model.specs.Plan as plan
use Rattle.search_model.specs.Plan.{PlanRefusal, plan_refusal}
use Rattle.search_words.specs.declared.fault.WordFault.{WordFault}
use Rattle.search_words.specs.declared.fault.WordFault.TheVariants.{Refused, OutOfRange}
use Rattle.search_words.specs.declared.settings.RunSettings.{RunSettings}
use Rattle.search_words.specs.Settings.{SettingsOf, SettingsSeen, with_search, run_seen, SaySearch, SayRecord, ExplainsSearch, ExplainsRecord}
use Rattle.stream_model.specs.Walk as walk
use Rattle.stream_model.specs.Walk.{FileStream, WalkStop, observation_at, transfer_data, stop_at, walk_stop}
use Rattle.stream_model.specs.WalkLaws.{IsAccepted, AreWalked}
use Rattle.stream_model.specs.Recorded as recorded
use Rattle.stream_model.specs.Recorded.{Recording, RecordRefusal, record_refusal}
use Rattle.transfer_text.specs.Searched.{ObservedTransfer, candidate_total}
use Rattle.dada_recorder.specs.Blocks.{header_or_none}
use Rattle.dada_recorder.specs.Changes.{recording}
use Rattle.disk_feeder.specs.Ends.{fault_of}
use Rattle.disk_feeder.specs.Plan.{Plan as FeedPlan, AreTold, AreToldAt, IsFirstFile, IsAmong}
use Rattle.disk_feeder.specs.Reading.{StopsAtFile}
use Rattle.disk_feeder.specs.declared.answers.HeaderCause.{HeaderCause}
use Rattle.disk_feeder.specs.declared.answers.HeaderCause.TheVariants.{Text, Fields}
use Rattle.run_outcome.specs.Lone.{LoneSearch, SayAlone, ExplainsAlone}
use Rattle.run_outcome.specs.Firsts.{first_file, first_name, EachFirst, RefusesTextAt, RefusesFieldsAt, RefusesFirstText, RefusesFirstFields}
use Rattle.run_outcome.specs.declared.causes.PlanCause.{PlanCause}
use Rattle.run_outcome.specs.declared.causes.PlanCause.TheVariants.{SumBound, FoldTooLarge, TooManyFolds, TooManyShards}
use Rattle.run_outcome.specs.declared.causes.RecordingCause.{RecordingCause}
use Rattle.run_outcome.specs.declared.causes.RecordingCause.TheVariants.{NoUtc, BadUtc, Overfull, TooManyFiles}
use Rattle.run_outcome.specs.declared.purpose.Purpose.{Purpose}
use Rattle.run_outcome.specs.declared.purpose.Purpose.TheVariants as purpose
use Rattle.run_outcome.specs.declared.stop.Stop.{Stop}
use Rattle.run_outcome.specs.declared.stop.Stop.TheVariants.{Words, Value, Header, Plan, Recording as Unrecorded, Gap, TooLong, TooMany}

-- ---- what it is over

-- what a run is asked to do: to search files; to record them alone; or to search one transfer in a program of its own
pub data Task : Type 0 where
  Searching : Task
  RecordingAlone : Task
  Alone : LoneSearch → Task

-- whether it searches
abbrev pub is_search : Task → Bool
is_search Searching = true
is_search RecordingAlone = false
is_search (Alone lone) = true

-- what a task has for a search
abbrev pub SearchFor : Task → Type 0
SearchFor Searching = Search
SearchFor RecordingAlone = Unit {0}
SearchFor (Alone lone) = Search

-- P holds of the search of a task, if it has one
abbrev pub IfSearch : (task : Task) → SearchFor task → (Search → Type 0) → Type 0
IfSearch Searching search P = P search
IfSearch RecordingAlone none P = ⊤
IfSearch (Alone lone) search P = P search

-- the settings of a task
abbrev pub SettingsFor : Task → Type 0
SettingsFor task = SettingsOf (SearchFor task)

-- what a run for this is asked to do: to search files, or to record them alone
abbrev pub task_of : Purpose → Task
task_of (purpose.Search search) = Searching
task_of purpose.Record = RecordingAlone

-- what a purpose has for a search
abbrev pub search_for : (purpose : Purpose) → SearchFor (task_of purpose)
search_for (purpose.Search search) = search
search_for purpose.Record = tt

-- and the settings of its task, with these of a run
abbrev pub settings_for : (purpose : Purpose) → RunSettings → SettingsFor (task_of purpose)
settings_for purpose run = with_search (search_for purpose) (run_seen run)

-- the words of a run say its settings
abbrev pub Says : (task : Task) → List (List ℕ) → SettingsFor task → Type 0
Says Searching words s = SaySearch words s
Says RecordingAlone words s = SayRecord words s
Says (Alone lone) words s = SayAlone lone words s

-- what a fault says of its words
abbrev pub Explains : Task → List (List ℕ) → WordFault → Type 0
Explains Searching words fault = ExplainsSearch words fault
Explains RecordingAlone words fault = ExplainsRecord words fault
Explains (Alone lone) words fault = ExplainsAlone lone words fault

-- the files of settings as a walk sees them
abbrev pub stream_for : {S : Type 0} → SettingsOf S → List (List ℕ) → FileStream
stream_for s files = record { files = files; starts = s.starts; max_bytes = s.max_bytes }

-- the plan of a feeder that reads these files, without their first headers
abbrev pub plan_for : {S : Type 0} → SettingsOf S → FeedPlan
plan_for s = record {
  names = s.names;
  starts = s.starts;
  max_bytes = s.max_bytes;
  headers = [];
  firsts = [];
}

-- P holds of the settings that the words say, and of the files that they name, where the bytes of all are told
abbrev pub ForFiles : (task : Task) → List (List ℕ) → Told
    → (SettingsFor task → FileStream → Type 0) → Type 0
ForFiles task words told P = (s : SettingsFor task) (files : List (List ℕ)) →
    Says task words s → AreTold told s.names files → P s (stream_for s files)

-- P holds of them where those are told that the settings need; of all other files nothing is said
abbrev pub ForFilesAt : (task : Task) → (SettingsFor task → ℕ → Type 0) → List (List ℕ) → Told
    → (SettingsFor task → FileStream → Type 0) → Type 0
ForFilesAt task Needed words told P = (s : SettingsFor task) (files : List (List ℕ)) →
    Says task words s → AreToldAt (Needed s) told s.names files → P s (stream_for s files)

-- the first file of each transfer
abbrev pub ForFirsts : (task : Task) → List (List ℕ) → Told
    → (SettingsFor task → FileStream → Type 0) → Type 0
ForFirsts task = ForFilesAt task (λ s. IsFirstFile s.starts (length s.names))

-- so many files from the first on
abbrev pub ForFilesTo : ℕ → (task : Task) → List (List ℕ) → Told
    → (SettingsFor task → FileStream → Type 0) → Type 0
ForFilesTo opened task = ForFilesAt task (λ s k. k < opened)

-- these, and the first file of each transfer
abbrev pub ForFilesWithFirsts : ℕ → (task : Task) → List (List ℕ) → Told
    → (SettingsFor task → FileStream → Type 0) → Type 0
ForFilesWithFirsts opened task = ForFilesAt task (λ s. IsAmong opened s.starts (length s.names))

-- the observation of a transfer's first header
abbrev pub first_observation : FileStream → ℕ → Observation
first_observation w transfer = observation_at (first_file w transfer)

-- a transfer as it is recorded: under the header of its first file, from that header's OBS_OFFSET on
abbrev pub recording_of : ℕ → List ℕ → Recording
recording_of file_size file =
    recording (header_or_none (header_of file)) (observation_at file).obs_offset file_size

abbrev pub first_recording : FileStream → ℕ → ℕ → Recording
first_recording w file_size transfer = recording_of file_size (first_file w transfer)

-- the transfers as they are searched: the observation of each, and all of its data
abbrev pub observed_transfers : FileStream → List ObservedTransfer
observed_transfers w =
    map (λ k. record { observation = first_observation w k; bytes = transfer_data w k })
    (range_with_len 0 (length w.starts))

-- ---- what is judged before data are read: all headers, then all searches, then all recordings

-- what the first file of a transfer says can be searched
abbrev pub CanSearch : Search → List ℕ → Type 0
CanSearch search file = plan_refusal (observation_at file) search ≡ None

-- and recorded in files of this size, up to so many data bytes
abbrev pub CanRecord : ℕ → ℕ → List ℕ → Type 0
CanRecord file_size max_bytes file = record_refusal (recording_of file_size file) max_bytes ≡ None

-- the first transfers, so many, can be searched
abbrev pub CanSearchFirst : Search → FileStream → ℕ → Type 0
CanSearchFirst search w count = (k : ℕ) → k < count → CanSearch search (first_file w k)

-- and recorded in files of this size
abbrev pub CanRecordFirst : ℕ → FileStream → ℕ → Type 0
CanRecordFirst file_size w count = (k : ℕ) → k < count →
    CanRecord file_size w.max_bytes (first_file w k)

-- nothing stands against a run before its data are read: the first header of each transfer is accepted
pub record CanBegin (task : Task) (s : SettingsFor task) (w : FileStream) : Type 0 where
  pub accepted : AreWalked w
  pub searched : IfSearch task s.search (λ search. CanSearchFirst search w (length w.starts))
  pub recorded : s.recording ≡ true → CanRecordFirst s.file_size w (length w.starts)

-- the cause is the first for which the search of an observation is refused
abbrev pub IsPlanCause : Option PlanRefusal → PlanCause → Type 0
IsPlanCause first (SumBound max_sample cells factor) =
    first ≡ Some (plan.SumBound max_sample cells factor)
IsPlanCause first (FoldTooLarge longest halvings) =
    first ≡ Some (plan.FoldTooLarge longest halvings)
IsPlanCause first (TooManyFolds count) = first ≡ Some (plan.TooManyFolds count)
IsPlanCause first (TooManyShards shards delays) = first ≡ Some (plan.TooManyShards shards delays)

-- it is the first for which a recording is; a length is told up to the greatest number there is
abbrev pub IsRecordingCause : Option RecordRefusal → RecordingCause → Type 0
IsRecordingCause first NoUtc = first ≡ Some recorded.NoTime
IsRecordingCause first BadUtc = first ≡ Some recorded.BadTime
IsRecordingCause first (Overfull need size) =
    (len : ℕ) × (first ≡ Some (recorded.NoRoom len size)) × (need ≡ min len (2 ^ 64 - 1))
IsRecordingCause first TooManyFiles = first ≡ Some recorded.TooManyFiles

-- the header of this file is the first refused one among those of the transfers' first files
abbrev pub RefusesFirstHeader : FileStream → ℕ → HeaderCause → Type 0
RefusesFirstHeader w file (Text fault) = RefusesFirstText w file fault
RefusesFirstHeader w file (Fields fault) = RefusesFirstFields w file fault

-- the search of some transfer is refused, and those before it fit
pub record RefusesSearch (search : Search) (w : FileStream) (cause : PlanCause) : Type 0 where
  pub accepted : AreWalked w
  pub transfer : ℕ
  pub there : transfer < length w.starts
  pub refused : IsPlanCause (plan_refusal (first_observation w transfer) search) cause
  pub earlier : CanSearchFirst search w transfer

-- the recording of some transfer is, and all searches fit
pub record RefusesToRecord
    (task : Task) (s : SettingsFor task) (w : FileStream) (cause : RecordingCause)
    : Type 0 where
  pub accepted : AreWalked w
  pub searched : IfSearch task s.search (λ search. CanSearchFirst search w (length w.starts))
  pub records : s.recording ≡ true
  pub transfer : ℕ
  pub there : transfer < length w.starts
  pub refused : IsRecordingCause
      (record_refusal (first_recording w s.file_size transfer) w.max_bytes) cause
  pub earlier : CanRecordFirst s.file_size w transfer

-- ---- the same of each first file that is told, by itself

-- P holds of each first file of these settings that is told
abbrev pub OfEachFirst : {S : Type 0} → Told → SettingsOf S → (List ℕ → Type 0) → Type 0
OfEachFirst told s P = EachFirst told s.names s.starts (length s.starts) P

-- nothing stands against a run by any first file that is told
pub record MayBegin (task : Task) (s : SettingsFor task) (told : Told) : Type 0 where
  pub accepted : OfEachFirst told s IsAccepted
  pub searched : IfSearch task s.search (λ search. OfEachFirst told s (CanSearch search))
  pub recorded : s.recording ≡ true → OfEachFirst told s (CanRecord s.file_size s.max_bytes)

-- the search of some transfer is refused, and those before it fit
pub record RefusesSearchAt {S : Type 0} (search : Search) (s : SettingsOf S) (told : Told)
    (cause : PlanCause) : Type 0 where
  pub accepted : OfEachFirst told s IsAccepted
  pub transfer : ℕ
  pub there : transfer < length s.starts
  pub refused : OfFile told (first_name s.names s.starts transfer) (λ file.
      IsPlanCause (plan_refusal (observation_at file) search) cause)
  pub earlier : EachFirst told s.names s.starts transfer (CanSearch search)

-- the recording of some transfer is, and all searches fit
pub record RefusesRecordingAt
    (task : Task) (s : SettingsFor task) (told : Told) (cause : RecordingCause)
    : Type 0 where
  pub accepted : OfEachFirst told s IsAccepted
  pub searched : IfSearch task s.search (λ search. OfEachFirst told s (CanSearch search))
  pub records : s.recording ≡ true
  pub transfer : ℕ
  pub there : transfer < length s.starts
  pub refused : OfFile told (first_name s.names s.starts transfer) (λ file.
      IsRecordingCause (record_refusal (recording_of s.file_size file) s.max_bytes) cause)
  pub earlier : EachFirst told s.names s.starts transfer (CanRecord s.file_size s.max_bytes)

-- ---- what stops a run at its files

-- the stop at a stop of the walk, with the limit of the data bytes
abbrev pub stop_of_walk : ℕ → WalkStop → Option Stop
stop_of_walk max_bytes walk.Whole = None
stop_of_walk max_bytes (walk.BadText file refusal) = Some (Header file (Text (fault_of refusal)))
stop_of_walk max_bytes (walk.BadFields file fault) = Some (Header file (Fields fault))
stop_of_walk max_bytes (walk.Gap file expected found) = Some (Gap file expected found)
stop_of_walk max_bytes (walk.TooLong file) = Some (TooLong max_bytes)

-- this is where the walk of files stops
abbrev pub IsWalkStop : FileStream → Stop → Type 0
IsWalkStop w stop = stop_of_walk w.max_bytes (walk_stop w) ≡ Some stop

-- a run begins, and this is where the walk of its files stops
pub record StopsWalk (task : Task) (s : SettingsFor task) (w : FileStream) (stop : Stop) :
    Type 0 where
  pub begins : CanBegin task s w
  pub stops : IsWalkStop w stop

-- a stop of the walk names this file, if it names one
abbrev pub StopNames : Stop → ℕ → Type 0
StopNames (Header k cause) file = k ≡ file
StopNames (Gap k expected found) file = k ≡ file
StopNames _ file = ⊤

-- and this limit of the data bytes, if it names one
abbrev pub StopTells : Stop → ℕ → Type 0
StopTells (TooLong limit) max_bytes = limit ≡ max_bytes
StopTells _ max_bytes = ⊤

-- all data are read and searched, and P holds of how many candidates they have
pub record HasCandidates (s : SettingsSeen) (w : FileStream) (P : ℕ → Type 0) : Type 0 where
  pub begins : CanBegin Searching s w
  pub whole : walk_stop w ≡ walk.Whole
  pub total : P (candidate_total s.search (observed_transfers w))

-- and of how many a program that searches alone finds by its own account
pub record FindsAlone (lone : LoneSearch) (s : SettingsSeen) (w : FileStream) (P : ℕ → Type 0) :
    Type 0 where
  pub begins : CanBegin (Alone lone) s w
  pub whole : walk_stop w ≡ walk.Whole
  pub total : P (lone.total s w)

-- so many candidates are there, which are more than there may be
abbrev pub IsTooMany : SettingsSeen → ℕ → ℕ → ℕ → Type 0
IsTooMany s count limit total =
    (total ≡ count) × (limit ≡ s.search.max_candidates) × (limit < count)

abbrev pub HasTooMany : (task : Task) → SettingsFor task → FileStream → ℕ → ℕ → Type 0
HasTooMany Searching s w count limit = HasCandidates s w (IsTooMany s count limit)
HasTooMany RecordingAlone s w count limit = ⊥
HasTooMany (Alone lone) s w count limit = FindsAlone lone s w (IsTooMany s count limit)

-- what first headers say is judged: of each first file that is told, by itself; and P holds where all are told
abbrev pub JudgesFirsts : (task : Task) → List (List ℕ) → Told → (SettingsFor task → Type 0)
    → (SettingsFor task → FileStream → Type 0) → Type 0
JudgesFirsts task words told Each P = ((s : SettingsFor task) → Says task words s → Each s)
    × ForFirsts task words told P

-- nothing stands against a run by its first files
abbrev pub BeginsByFirsts : Task → List (List ℕ) → Told → Type 0
BeginsByFirsts task words told = JudgesFirsts task words told (λ s. MayBegin task s told)
    (λ s w. CanBegin task s w)

-- The first refused header is that of this file. Its text is refused by this file and the first files before it; what
-- it says is refused once all first files have headers, since all texts are judged before.
abbrev pub RefusesFirsts : Task → List (List ℕ) → Told → ℕ → HeaderCause → Type 0
RefusesFirsts task words told file (Text fault) = (s : SettingsFor task) → Says task words s →
    RefusesTextAt told s.names s.starts file fault
RefusesFirsts task words told file (Fields fault) =
    JudgesFirsts task words told (λ s. RefusesFieldsAt told s.names s.starts file fault)
    (λ s w. RefusesFirstFields w file fault)

-- the search of an observation is refused, or its recording
abbrev pub RefusesSearches : Task → List (List ℕ) → Told → PlanCause → Type 0
RefusesSearches task words told cause = (is_search task ≡ true)
    × JudgesFirsts task words told
    (λ s. IfSearch task s.search (λ search. RefusesSearchAt search s told cause))
    (λ s w. IfSearch task s.search (λ search. RefusesSearch search w cause))

abbrev pub RefusesRecordings : Task → List (List ℕ) → Told → RecordingCause → Type 0
RefusesRecordings task words told cause =
    JudgesFirsts task words told (λ s. RefusesRecordingAt task s told cause)
    (λ s w. RefusesToRecord task s w cause)

-- none of the files before this one stops the walk, each by the files up to it
abbrev pub PassesTo : ℕ → Task → List (List ℕ) → Told → Type 0
PassesTo file task words told = (k : ℕ) → k < file → ForFilesTo (k + 1) task words told (λ s w.
    stop_at w k ≡ None)

-- Nothing stands against a run by its first files; this file is there, and none before it stops the walk. By the files
-- up to it, the walk stops at it, and P holds.
pub record StopsThere (file : ℕ) (task : Task) (words : List (List ℕ)) (told : Told)
    (P : SettingsFor task → FileStream → Type 0) : Type 0 where
  pub begun : BeginsByFirsts task words told
  pub there : (s : SettingsFor task) → Says task words s → file < length s.names
  pub passed : PassesTo file task words told
  pub stops : ForFilesTo (file + 1) task words told (λ s w. StopsAtFile (walk_stop w) file)
  pub says : ForFilesTo (file + 1) task words told P

-- the walk stops so at some file, the only one that the stop names, and at no other limit than that of the settings
pub record StopsAt (task : Task) (words : List (List ℕ)) (told : Told) (stop : Stop) : Type 0 where
  pub file : ℕ
  pub names : StopNames stop file
  pub tells : (s : SettingsFor task) → Says task words s → StopTells stop s.max_bytes
  pub stops : StopsThere file task words told (λ s w. IsWalkStop w stop)

-- what a stop says of the files, over those that it needs
abbrev pub SaysOfFiles : Task → List (List ℕ) → Told → Stop → Type 0
SaysOfFiles task words told (Header file cause) =
    RefusesFirsts task words told file cause ⊎ StopsAt task words told (Header file cause)
SaysOfFiles task words told (Plan cause) = RefusesSearches task words told cause
SaysOfFiles task words told (Unrecorded cause) = RefusesRecordings task words told cause
SaysOfFiles task words told (Gap file expected found) =
    StopsAt task words told (Gap file expected found)
SaysOfFiles task words told (TooLong limit) = StopsAt task words told (TooLong limit)
SaysOfFiles task words told (TooMany count limit) =
    ForFiles task words told (λ s w. HasTooMany task s w count limit)
SaysOfFiles task words told _ = Unit {0}

-- what it says of the words
abbrev pub IsStopOfWords : Task → List (List ℕ) → Stop → Type 0
IsStopOfWords task words Words = Explains task words Refused
IsStopOfWords task words (Value opt) = Explains task words (OutOfRange opt)
IsStopOfWords task words _ = Unit {0}
