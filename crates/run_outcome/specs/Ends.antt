-- How a run of either program ends, before its session or after it, and what its exit status then says.
-- Source: this project's choice.
use Rattle.std.specs.Prelude.{◌≡◌, ◌≢◌, ℕ, ◌+◌, ◌<◌, ◌≤◌, ◌⊎◌, ⊤, true, false, List, [], ◌∷◌, length, Option, Some, None, IsSome, Contains}
use Rattle.psr_base.specs.Count.{Rose}
use Rattle.psr_base.specs.Told.{Told, InputsSeen}
use Rattle.psr_base.specs.Made.{FilesSeen}
use Rattle.ring_ends.specs.declared.finished.Finished.{Finished}
use Rattle.ring_ends.specs.Ended.{sealed_at_end}
use Rattle.search_model.specs.declared.search.Search.{Search}
use Rattle.stream_model.specs.Walk as walk
use Rattle.stream_model.specs.Walk.{FileStream, walk_stop}
use Rattle.stream_model.specs.WalkLaws.{AreWalked}
use Rattle.disk_feeder.specs.declared.answers.FeedEnd.{FeedEnd}
use Rattle.disk_feeder.specs.declared.answers.FeedEnd.TheVariants as feeder
use Rattle.disk_feeder.specs.declared.answers.HeaderCause.{HeaderCause}
use Rattle.disk_feeder.specs.declared.answers.HeaderCause.TheVariants.{Text, Fields}
use Rattle.dada_header.specs.declared.faults.HeaderFault.{HeaderFault}
use Rattle.disk_feeder.specs.declared.place.Place.{Place}
use Rattle.disk_feeder.specs.Ends.{NamesPlace}
use Rattle.disk_feeder.specs.Feeding.{EndIs, StopsWalkAt}
use Rattle.disk_feeder.specs.Filling.{HoldsAll}
use Rattle.disk_feeder.specs.Plan.{AreTold, AreToldAt, IsFirstFile, IsFirstBefore}
use Rattle.disk_feeder.specs.Reading.{StopsAtFile, judged_at}
use Rattle.dada_recorder.specs.declared.answers.RecordEnd.{RecordEnd}
use Rattle.dada_recorder.specs.declared.answers.RecordEnd.TheVariants as recorder
use Rattle.run_outcome.specs.declared.causes.PlanCause.{PlanCause}
use Rattle.run_outcome.specs.declared.causes.RecordingCause.{RecordingCause}
use Rattle.run_outcome.specs.declared.stop.Stop.{Stop}
use Rattle.run_outcome.specs.declared.stop.Stop.TheVariants.{Words, Value, Header, Plan, Recording, Memory, ReadFault, Gap, TooLong, TooMany, SinkFault, FileFault}
use Rattle.run_outcome.specs.Texts.{status_of}
use Rattle.run_outcome.specs.Firsts.{RefusesFirstText, RefusesFirstFields}
use Rattle.search_words.specs.declared.fault.WordFault.{WordFault}
use Rattle.run_outcome.specs.Conversions.{stop_of_words, stop_of_feed}
use Rattle.run_outcome.specs.Runs.{Task, SettingsFor, is_search, IfSearch, Says, ForFiles, ForFirsts, ForFilesTo, BeginsByFirsts, PassesTo, stream_for, CanSearchFirst, CanRecordFirst, CanBegin, RefusesFirstHeader, RefusesSearch, RefusesToRecord, RefusesFirsts, RefusesSearches, RefusesRecordings, IsWalkStop, SaysOfFiles, IsStopOfWords, Explains}
use Rattle.run_outcome.specs.Outcomes.{JudgesWords, ReadsInputs, LeavesAtFault, StopsAtFiles, SealsStream, RecordsFiles, MadeBy, files_of_stream}

-- the status of a run that came to a stop, or to none
abbrev pub end_status : Option Stop → ℕ
end_status None = 0
end_status (Some stop) = status_of stop

-- 5 is the status of want of memory alone, and 6 that of a fault of the inputs
pub record StatusesSayStops : Type 0 where
  pub memory : (stop : Stop) → status_of stop ≡ 5 → stop ≡ Memory
  pub read_fault : (stop : Stop) → status_of stop ≡ 6 → stop ≡ ReadFault

-- what a stop, where there is one, says of the words and of the files
abbrev pub IsSaid : Task → List (List ℕ) → Told → Option Stop → Type 0
IsSaid task words told None = ⊤
IsSaid task words told (Some stop) =
    IsStopOfWords task words stop × SaysOfFiles task words told stop

-- what the exit status says of the files and of the data ring
pub record EndsAt
    (task : Task) (words : List (List ℕ)) (told : Told) (blocks : Option Finished)
    (answer : Option RecordEnd) (before after : FilesSeen) (status : ℕ) : Type 0 where
  pub stopped : StopsAtFiles task words told blocks status
  pub sealed : SealsStream task words told blocks status
  pub recorded : RecordsFiles task words told blocks answer before after status

-- and of the words and the inputs
pub record EndsRun
    (task : Task) (words : List (List ℕ)) (inputs : InputsSeen) (is_calm : Type 0)
    (blocks : Option Finished) (answer : Option RecordEnd) (before after : FilesSeen)
    (status : ℕ) : Type 0 where
  pub judged : JudgesWords task words status
  pub read : ReadsInputs task words inputs is_calm status
  pub ends : EndsAt task words inputs.told blocks answer before after status

-- the statuses of a run that ends before all data were sealed
abbrev pub short_statuses : List ℕ
short_statuses = 2 ∷ 3 ∷ 4 ∷ 5 ∷ 6 ∷ 7 ∷ 8 ∷ []

-- it ends so: at its words, before its session, or where its feeder was stopped
pub record EndsShort
    (task : Task) (words : List (List ℕ)) (inputs : InputsSeen) (is_calm : Type 0)
    (blocks : Option Finished) (answer : Option RecordEnd) (before after : FilesSeen)
    (stop : Stop) : Type 0 where
  pub known : Contains short_statuses (status_of stop)
  pub least : 2 ≤ status_of stop
  pub most : status_of stop ≤ 8
  pub run : EndsRun task words inputs is_calm blocks answer before after (status_of stop)
  pub said : IsSaid task words inputs.told (Some stop)

-- reading failed exactly where the count of faults rose, and not over calm inputs that hold all of these files
pub record CountsFaults
    (inputs : InputsSeen) (is_calm : Type 0) (names : List (List ℕ)) (failed : Type 0)
    : Type 0 where
  pub rose : failed → Rose inputs.faults_before inputs.faults_after
  pub quiet : ¬ failed → inputs.faults_after ≡ inputs.faults_before
  pub count : inputs.faults_before ≤ inputs.faults_after
  pub serves : is_calm → HoldsAll inputs.told names → ¬ failed

-- ---- at the words

-- they say no settings, or there was no memory: no file was opened
abbrev pub EndAtWords : Type 0 → Type 0
EndAtWords is_calm = (task : Task) (words : List (List ℕ)) (inputs : InputsSeen)
    (seen : FilesSeen) (fault : WordFault) (stop : Stop) →
    Explains task words fault → stop ≡ stop_of_words fault →
    inputs.faults_after ≡ inputs.faults_before →
    EndsShort task words inputs is_calm None None seen seen stop

-- the same words never say two different settings
abbrev pub WordsSayOnce : Type 0
WordsSayOnce = (task : Task) (words : List (List ℕ)) (s t : SettingsFor task) →
    Says task words s → Says task words t → s ≡ t

-- ---- before the session

-- what a stop between the words and the session says of the files; others don't come there
abbrev pub SaysBefore : Task → List (List ℕ) → Told → Stop → Type 0
SaysBefore task words told (Header file cause) = RefusesFirsts task words told file cause
SaysBefore task words told (Plan cause) = RefusesSearches task words told cause
SaysBefore task words told (Recording cause) = RefusesRecordings task words told cause
SaysBefore task words told Memory = ⊤
SaysBefore task words told ReadFault = ⊤
SaysBefore task words told _ = ⊥

abbrev pub ComesBefore : Stop → Type 0
ComesBefore Words = ⊥
ComesBefore (Value opt) = ⊥
ComesBefore (Gap file expected found) = ⊥
ComesBefore (TooLong limit) = ⊥
ComesBefore (TooMany count limit) = ⊥
ComesBefore SinkFault = ⊥
ComesBefore FileFault = ⊥
ComesBefore _ = ⊤

pub record StopsBefore (task : Task) (words : List (List ℕ)) (told : Told) (stop : Stop) :
    Type 0 where
  pub kind : ComesBefore stop
  pub says : SaysBefore task words told stop

-- no block was sealed, and no file was made
abbrev pub EndBeforeSession : Type 0 → Type 0
EndBeforeSession is_calm = (task : Task) (words : List (List ℕ)) (s : SettingsFor task)
    (inputs : InputsSeen) (before after : FilesSeen) (stop : Stop) → Says task words s →
    StopsBefore task words inputs.told stop → after ≡ before →
    CountsFaults inputs is_calm s.names (stop ≡ ReadFault) →
    EndsShort task words inputs is_calm None None before after stop

-- ---- after it

-- a recorder ended with all data where its feeder sealed them, or was cut as that was; or a call failed
abbrev pub EndsAsFed : FeedEnd → RecordEnd → Type 0
EndsAsFed feed (recorder.Whole count) = (bytes : ℕ) × (feed ≡ feeder.Whole bytes)
EndsAsFed feed (recorder.Cut count) = (bytes : ℕ) → feed ≢ feeder.Whole bytes
EndsAsFed feed recorder.FileFault = ⊤
EndsAsFed feed (recorder.BadHeader fault) = ⊥
EndsAsFed feed (recorder.TooLong limit) = ⊥

-- A session went through: nothing stood against it, and its feeder ended so at some place. Where it sealed all data
-- that is past all files; else the file of the place is there, and the only one that the end names.
pub record IsRunFed
    (task : Task) (words : List (List ℕ)) (told : Told) (blocks : Finished) (feed : FeedEnd)
    : Type 0 where
  pub begun : BeginsByFirsts task words told
  pub at : Place
  pub last : (bytes : ℕ) → feed ≡ feeder.Whole bytes → (s : SettingsFor task) → Says task words s →
      at.file ≡ length s.names
  pub there : ((bytes : ℕ) → feed ≢ feeder.Whole bytes) → (s : SettingsFor task) →
      Says task words s → at.file < length s.names
  pub names : NamesPlace feed at.file
  pub limit : (limit : ℕ) → feed ≡ feeder.TooLong limit → (s : SettingsFor task) →
      Says task words s → limit ≡ s.max_bytes
  pub passed : PassesTo at.file task words told
  pub walked : ForFilesTo (judged_at feed at) task words told (λ s w.
      EndIs w s.size (sealed_at_end blocks) feed)
  pub stops : ForFilesTo (judged_at feed at) task words told (λ s w. StopsWalkAt feed w at.file)

-- and recorded what went through, or a front of it where a call failed; or was to record nothing
pub record IsRecorded
    (task : Task) (words : List (List ℕ)) (told : Told) (blocks : Finished) (feed : FeedEnd)
    (answer : Option RecordEnd) (before after : FilesSeen) : Type 0 where
  pub unrecorded : (s : SettingsFor task) → Says task words s → s.recording ≡ false →
      (after ≡ before) × (answer ≡ None)
  pub ended : (s : SettingsFor task) → Says task words s → s.recording ≡ true → IsSome answer
  pub as_fed : (end : RecordEnd) → answer ≡ Some end → EndsAsFed feed end
  pub made : (end : RecordEnd) → answer ≡ Some end → ForFirsts task words told (λ s w.
      MadeBy end (files_of_stream w s.file_size (sealed_at_end blocks)) before after)
  pub rose : answer ≡ Some recorder.FileFault → Rose before.faults after.faults
  pub quiet : answer ≢ Some recorder.FileFault → after.faults ≡ before.faults
  pub count : before.faults ≤ after.faults

-- so a session of these settings went through, and this is what was read
pub record RunsThrough
    (task : Task) (words : List (List ℕ)) (s : SettingsFor task) (inputs : InputsSeen)
    (is_calm : Type 0) (blocks : Finished) (feed : FeedEnd) (answer : Option RecordEnd)
    (before after : FilesSeen) : Type 0 where
  pub says : Says task words s
  pub fed : IsRunFed task words inputs.told blocks feed
  pub recorded : IsRecorded task words inputs.told blocks feed answer before after
  pub read : CountsFaults inputs is_calm s.names (feed ≡ feeder.ReadFault)

-- the feeder was stopped
abbrev pub EndAtStop : Type 0 → Type 0
EndAtStop is_calm = (task : Task) (words : List (List ℕ)) (s : SettingsFor task)
    (inputs : InputsSeen) (blocks : Finished) (feed : FeedEnd) (answer : Option RecordEnd)
    (before after : FilesSeen) (stop : Stop) →
    RunsThrough task words s inputs is_calm blocks feed answer before after →
    stop_of_feed feed ≡ Some stop →
    EndsShort task words inputs is_calm (Some blocks) answer before after stop

-- the status of a run whose data were all sealed: 0 only where no call on the files failed, and 11 only where one did
pub record IsLate (answer : Option RecordEnd) (status : ℕ) : Type 0 where
  pub known : Contains (0 ∷ 9 ∷ 10 ∷ 11 ∷ []) status
  pub all : status ≡ 0 → answer ≢ Some recorder.FileFault
  pub failed : status ≡ 11 → answer ≡ Some recorder.FileFault

abbrev pub EndAfterWhole : Type 0 → Type 0
EndAfterWhole is_calm = (task : Task) (words : List (List ℕ)) (s : SettingsFor task)
    (inputs : InputsSeen) (blocks : Finished) (feed : FeedEnd) (answer : Option RecordEnd)
    (before after : FilesSeen) (status : ℕ) →
    RunsThrough task words s inputs is_calm blocks feed answer before after →
    stop_of_feed feed ≡ None → IsLate answer status →
    EndsRun task words inputs is_calm (Some blocks) answer before after status
    × ForFiles task words inputs.told (λ s w. CanBegin task s w × (walk_stop w ≡ walk.Whole))

-- ---- where nothing stands against it

-- words, first headers, searches, recordings and data that are accepted, over inputs that are calm or count no fault:
-- a run ends at none of them
abbrev pub AcceptedGoesOn : Type 0 → Type 0
AcceptedGoesOn is_calm = (task : Task) (words : List (List ℕ)) (inputs : InputsSeen)
    (blocks : Option Finished) (status : ℕ) → JudgesWords task words status →
    ReadsInputs task words inputs is_calm status →
    StopsAtFiles task words inputs.told blocks status → (s : SettingsFor task)
    (files : List (List ℕ)) → Says task words s → AreTold inputs.told s.names files →
    CanBegin task s (stream_for s files) → walk_stop (stream_for s files) ≡ walk.Whole →
    is_calm ⊎ ¬ Rose inputs.faults_before inputs.faults_after →
    ¬ Contains (2 ∷ 3 ∷ 4 ∷ 6 ∷ 7 ∷ 8 ∷ []) status

-- a first header that is accepted is not refused, as a walk sees it and where all first files are told, nor is a search
-- or a recording that fits
pub record AcceptedIsNotRefused : Type 0 where
  pub header : (w : FileStream) (file : ℕ) (cause : HeaderCause) → AreWalked w →
      ¬ RefusesFirstHeader w file cause
  pub firsts : (task : Task) (words : List (List ℕ)) (told : Told) (s : SettingsFor task)
      (files : List (List ℕ)) (file : ℕ) (cause : HeaderCause) → Says task words s →
      AreToldAt (IsFirstFile s.starts (length s.names)) told s.names files →
      AreWalked (stream_for s files) → ¬ RefusesFirsts task words told file cause
  pub search : (search : Search) (w : FileStream) (cause : PlanCause) →
      CanSearchFirst search w (length w.starts) → ¬ RefusesSearch search w cause
  pub recording : (task : Task) (s : SettingsFor task) (w : FileStream) (cause : RecordingCause) →
      (s.recording ≡ true → CanRecordFirst s.file_size w (length w.starts)) →
      ¬ RefusesToRecord task s w cause

-- ---- what stands against a run, whatever is told of files that are opened later

-- Q holds of each run of which this is known, over inputs that are calm or count no fault: what its exit status says of
-- words, inputs, files and data ring, and what a fault of the inputs leaves
abbrev pub ForRuns
    : Type 0 → (Task → List (List ℕ) → Told → Option Finished → ℕ → Type 0) → Type 0
ForRuns is_calm Q = (task : Task) (words : List (List ℕ)) (inputs : InputsSeen) (after : Told)
    (blocks : Option Finished) (status : ℕ) → JudgesWords task words status →
    ReadsInputs task words inputs is_calm status →
    StopsAtFiles task words inputs.told blocks status →
    SealsStream task words inputs.told blocks status →
    (status ≡ 6 → LeavesAtFault task words is_calm inputs.told after blocks) →
    is_calm ⊎ ¬ Rose inputs.faults_before inputs.faults_after →
    Q task words inputs.told blocks status

-- it ends with the status of this stop, or for want of memory
abbrev pub EndsSo : Stop → ℕ → Type 0
EndsSo stop status = Contains (status_of stop ∷ 5 ∷ []) status

-- a first file has no header, and those of the transfers before it have: it ends so, by these alone
abbrev pub TextsAreAnswered : Type 0 → Type 0
TextsAreAnswered is_calm = ForRuns is_calm (λ task words told blocks status. (s : SettingsFor task)
    (files : List (List ℕ)) (file : ℕ) (fault : HeaderFault) → Says task words s →
    AreToldAt (IsFirstBefore (file + 1) s.starts (length s.names)) told s.names files →
    RefusesFirstText (stream_for s files) file fault → EndsSo (Header file (Text fault)) status)

-- what a stop that comes before data are read says of the first files, where all of these have headers
abbrev pub RefusesByFirsts : (task : Task) → SettingsFor task → FileStream → Stop → Type 0
RefusesByFirsts task s w (Header file (Fields fault)) = RefusesFirstFields w file fault
RefusesByFirsts task s w (Plan cause) = (is_search task ≡ true)
    × IfSearch task s.search (λ search. RefusesSearch search w cause)
RefusesByFirsts task s w (Recording cause) = RefusesToRecord task s w cause
RefusesByFirsts task s w _ = ⊥

-- a first header says no observation, or a search or a recording is refused: it ends so, by the first files alone
abbrev pub FirstsAreAnswered : Type 0 → Type 0
FirstsAreAnswered is_calm = ForRuns is_calm (λ task words told blocks status. (s : SettingsFor task)
    (files : List (List ℕ)) (stop : Stop) → Says task words s →
    AreToldAt (IsFirstFile s.starts (length s.names)) told s.names files →
    RefusesByFirsts task s (stream_for s files) stop → EndsSo stop status)

-- a session began; or nothing stands against a run by its first files, which are told
abbrev pub HasBegun : (task : Task) → Told → Option Finished → SettingsFor task → List (List ℕ)
    → Type 0
HasBegun task told blocks s files = IsSome blocks
    ⊎ (AreToldAt (IsFirstFile s.starts (length s.names)) told s.names files
    × CanBegin task s (stream_for s files))

-- a run has begun, and the walk of some files stops at one of them: it ends so, by the files up to that one
abbrev pub StopsAreAnswered : Type 0 → Type 0
StopsAreAnswered is_calm = ForRuns is_calm (λ task words told blocks status. (s : SettingsFor task)
    (files : List (List ℕ)) (file : ℕ) (stop : Stop) → Says task words s →
    AreToldAt (λ k. k < file + 1) told s.names files → HasBegun task told blocks s files →
    IsWalkStop (stream_for s files) stop →
    StopsAtFile (walk_stop (stream_for s files)) file → EndsSo stop status)
