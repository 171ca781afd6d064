-- What a run comes to, for all words that say its settings.
use Rattle.std.proofs.Common.{◌≡◌, ℕ, ◌+◌, ◌<◌, ◌≤◌, inr, List, Option, Some, None, length, sym, ap, ◌∙◌, subst, arith}
use Rattle.std.specs.Prelude.{IsSome}
use mathlib.Core.List.{IsPrefix}
use Rattle.psr_base.specs.Told.{Told, history}
use Rattle.search_words.specs.Settings.{SettingsOf}
use Rattle.ring_ends.specs.Ended.{sealed_at_end}
use Rattle.stream_model.specs.Walk.{FileStream, stop_at, transfer_data}
use Rattle.disk_feeder.specs.declared.answers.FeedEnd.{FeedEnd}
use Rattle.disk_feeder.specs.declared.answers.FeedEnd.TheVariants as feed
use Rattle.disk_feeder.specs.declared.answers.HeaderCause.TheVariants.{Text, Fields}
use Rattle.disk_feeder.specs.declared.feeder.Feeder.{Feeder}
use Rattle.disk_feeder.specs.declared.place.Place.{Place}
use Rattle.disk_feeder.specs.Feeder.{plan_at, names_at, block_size}
use Rattle.disk_feeder.specs.Feeding.{EndIs, StopsWalkAt, IsCutAt, IsCutPast, IsEnded, SealedAs}
use Rattle.disk_feeder.specs.History.{file_name, read_before, IsShut, BreaksIf}
use Rattle.disk_feeder.specs.Plan.{Plan, AreToldAt, IsFirstFile, IsAmong, opened_at}
use Rattle.disk_feeder.specs.Reading.{judged_at}
use Rattle.search_session.specs.declared.ended.SessionEnd.{SessionEnd}
use Rattle.search_session.specs.Sessions.{FeedAnswers, data_through}
use Rattle.run_outcome.specs.declared.stop.Stop.{Stop}
use Rattle.run_outcome.specs.declared.stop.Stop.TheVariants.{Words, Value, Header, Plan as Refused, Recording, Memory, ReadFault, Gap, TooLong, TooMany, SinkFault, FileFault}
use Rattle.run_outcome.specs.Ends.{WordsSayOnce, SaysBefore, IsRunFed}
use Rattle.run_outcome.specs.Firsts.{ReadsFirsts, RefusesTextAt, RefusesFieldsAt, BreaksFirstAt, RefusesFirstFields}
use Rattle.run_outcome.specs.Outcomes.{LeavesAtFault, MadeBy, files_of_stream}
use Rattle.run_outcome.specs.Runs.{Task, SettingsFor, IfSearch, Says, ForFilesAt, JudgesFirsts, PassesTo, MayBegin, CanBegin, RefusesSearch, RefusesSearchAt, RefusesToRecord, RefusesRecordingAt, stream_for, plan_for}
use Rattle.search_opening.specs.Early.{SaysEarly}
use Rattle.search_opening.specs.Ended.{EarlyStopsAreSaid, EarlyStopsLeave, HasReadSince, SessionsFeedFiles, RecordingsAreSaid}
use Rattle.search_opening.specs.Settings.{OfRunAt, OfRunTo, JudgesRun, BeginsRun, PassesRunTo, ForWords}
use Rattle.search_opening.proofs.Told.{FeedsRun, before_reading, begins_before_reading, hold_still, cuts_stay, of_plan, all_of_plan, passes_run}

-- words say one settings: so what holds of the files of a run holds for them
for_files : WordsSayOnce → (task : Task) (Needed : SettingsFor task → ℕ → Type 0) (words : List (List ℕ))
    (s : SettingsFor task) (told : Told) (P : SettingsFor task → FileStream → Type 0) → Says task words s →
    OfRunAt (Needed s) told s (P s) → ForFilesAt task Needed words told P
for_files once task Needed words s told P says holds t files says' are =
    let same = once task words t s says' says in
    subst (λ u. P u (stream_for u files)) (sym same)
    (holds files (subst (λ (u : SettingsFor task). AreToldAt (Needed u) told u.names files) same are))

-- and what is said of them holds of those of all words
for_settings : WordsSayOnce → (task : Task) (words : List (List ℕ)) (s : SettingsFor task)
    (P : SettingsFor task → Type 0) → Says task words s → P s → (t : SettingsFor task) → Says task words t → P t
for_settings once task words s P says holds t says' = subst P (once task words s t says says') holds

-- the first file of each transfer; so many files from the first on; and both
abbrev pub firsts : {S : Type 0} → SettingsOf S → ℕ → Type 0
firsts s = IsFirstFile s.starts (length s.names)

abbrev pub up_to : {S : Type 0} → ℕ → SettingsOf S → ℕ → Type 0
up_to opened s = λ k. k < opened

abbrev pub with_firsts : {S : Type 0} → ℕ → SettingsOf S → ℕ → Type 0
with_firsts opened s = IsAmong opened s.starts (length s.names)

-- ---- before the session

judges_firsts : WordsSayOnce → (task : Task) (words : List (List ℕ)) (s : SettingsFor task) (told : Told)
    (Each : SettingsFor task → Type 0) (P : SettingsFor task → FileStream → Type 0) → Says task words s →
    JudgesRun told s (Each s) (P s) → JudgesFirsts task words told Each P
judges_firsts once task words s told Each P says judges = (
  for_settings once task words s Each says judges.0,
  for_files once task (λ t. firsts t) words s told P says judges.1,
)

says_before : WordsSayOnce → (task : Task) (words : List (List ℕ)) (s : SettingsFor task) (told : Told) (stop : Stop) →
    Says task words s → SaysEarly task s told stop → SaysBefore task words told stop
says_before once task words s told Words says early = absurd early
says_before once task words s told (Value opt) says early = absurd early
says_before once task words s told (Header file (Text fault)) says early =
    for_settings once task words s (λ t. RefusesTextAt told t.names t.starts file fault) says early
says_before once task words s told (Header file (Fields fault)) says early =
    judges_firsts once task words s told (λ t. RefusesFieldsAt told t.names t.starts file fault)
    (λ t w. RefusesFirstFields w file fault) says early
says_before once task words s told (Refused cause) says early = (
  early.0,
  judges_firsts once task words s told
      (λ t. IfSearch task t.search (λ search. RefusesSearchAt search t told cause))
      (λ t w. IfSearch task t.search (λ search. RefusesSearch search w cause)) says early.1,
)
says_before once task words s told (Recording cause) says early =
    judges_firsts once task words s told (λ t. RefusesRecordingAt task t told cause)
    (λ t w. RefusesToRecord task t w cause) says early
says_before once task words s told Memory says early = tt
says_before once task words s told ReadFault says early = tt
says_before once task words s told (Gap file expected found) says early = absurd early
says_before once task words s told (TooLong limit) says early = absurd early
says_before once task words s told (TooMany count limit) says early = absurd early
says_before once task words s told SinkFault says early = absurd early
says_before once task words s told FileFault says early = absurd early

pub stops_said : WordsSayOnce → EarlyStopsAreSaid
stops_said once task s told stop early words says = record {
  kind = early.kind;
  says = says_before once task words s told stop says early.says;
}

pub stops_leave : WordsSayOnce → (is_calm : Type 0) → EarlyStopsLeave is_calm
stops_leave once is_calm task s before after stop early = record {
  unread = λ want words says. inr (for_files once task (λ t. firsts t) words s before
      (λ t w. ReadsFirsts t.names w before after) says (early.unread want));
  broken = λ failed words says. for_settings once task words s
      (λ t. BreaksFirstAt t.names t.starts is_calm before after) says (early.broke failed);
}

-- ---- from the session on

passes_to : WordsSayOnce → (task : Task) (words : List (List ℕ)) (s : SettingsFor task) (told : Told) (file : ℕ) →
    Says task words s → PassesRunTo file told s → PassesTo file task words told
passes_to once task words s told file says passed k below =
    for_files once task (λ t. up_to (k + 1) t) words s told (λ t w. stop_at w k ≡ None) says (passed k below)

begins_by : WordsSayOnce → (task : Task) (words : List (List ℕ)) (s : SettingsFor task) (old new : Told) →
    Says task words s → new.bytes_under ≡ old.bytes_under → BeginsRun task new s →
    JudgesFirsts task words old (λ t. MayBegin task t old) (λ t w. CanBegin task t w)
begins_by once task words s old new says same begun =
    judges_firsts once task words s old (λ t. MayBegin task t old) (λ t w. CanBegin task t w) says
    (begins_before_reading task s old new same begun)

-- a limit that an end tells is that of the plan
ends_at_limit : (plan : Plan) (told : Told) (at : Place) (size : ℕ) (headers blocks : List _) (end : FeedEnd)
    (limit : ℕ) → IsEnded plan told at size headers blocks end → end ≡ feed.TooLong limit → limit ≡ plan.max_bytes
ends_at_limit plan told at size headers blocks end limit is long =
    let By : FeedEnd → Type 0 = λ e. SealedAs plan size is.before is.current headers blocks e in
    let sealed = subst By long is.sealed in
    sealed.3

-- and the bytes that it tells are within it
few_bytes : (plan : Plan) (told : Told) (at : Place) (size : ℕ) (headers blocks : List _) (end : FeedEnd)
    (bytes limit : ℕ) → IsEnded plan told at size headers blocks end → end ≡ feed.Whole bytes →
    plan.max_bytes ≡ limit → bytes ≤ limit
few_bytes plan told at size headers blocks end bytes limit is whole same =
    let By : FeedEnd → Type 0 = λ e. SealedAs plan size is.before is.current headers blocks e in
    let sealed = subst By whole is.sealed in
    let few = is.few in
    let count = sealed.3 in
    omega (arith, few, count, same)

module _ {I F : Type 0} (once : WordsSayOnce) (told : I → Told) (is_calm : I → Type 0) (faults : I → ℕ)
    (feeder : Feeder I) (end : SessionEnd I F) (fed : FeedAnswers told is_calm faults feeder end) (task : Task)
    (s : SettingsFor task) (before : I) (plan : FeedsRun feeder s) (read : HasReadSince told is_calm before feeder) where
  abbrev old : Told
  old = told before

  abbrev mid : Told
  mid = told feeder.inputs.now

  abbrev new : Told
  new = told end.inputs.now

  same : new.bytes_under ≡ old.bytes_under
  same = fed.names ∙ read.names

  -- what the feeder of the run did
  is_fed : BeginsRun task mid s →
      ForWords task s (λ words. IsRunFed task words old end.blocks end.feed)
  is_fed begun words says =
      let at = fed.place in
      let sealed = sealed_at_end end.blocks in
      let judged = judged_at end.feed at in
      let End : ℕ → Type 0 = λ size. OfRunTo judged old s (λ w. EndIs w size sealed end.feed) in
      record {
        begun = begins_by once task words s old mid says read.names begun;
        at = at;
        last = λ bytes whole. for_settings once task words s (λ t. at.file ≡ length t.names) says
            (fed.sealed.last bytes whole ∙ ap length plan.files);
        there = λ early. for_settings once task words s (λ t. at.file < length t.names) says
            (subst (λ names. at.file < length names) plan.files (fed.sealed.there early));
        names = fed.sealed.names;
        limit = λ limit long. for_settings once task words s (λ t. limit ≡ t.max_bytes) says
            (ends_at_limit (plan_at feeder) new at (block_size feeder) _ _ end.feed limit fed.sealed long
            ∙ plan.limit);
        passed = passes_to once task words s old at.file says
            (passes_run feeder s old new at.file plan same fed.sealed.passed);
        walked = for_files once task (λ t. up_to judged t) words s old (λ t w. EndIs w t.size sealed end.feed) says
            (subst End plan.block (of_plan (λ starts count k. k < judged) feeder s old new
            (λ w. EndIs w (block_size feeder) sealed end.feed) plan same fed.sealed.known));
        stops = for_files once task (λ t. up_to judged t) words s old (λ t w. StopsWalkAt end.feed w at.file) says
            (of_plan (λ starts count k. k < judged) feeder s old new (λ w. StopsWalkAt end.feed w at.file) plan same
            fed.sealed.stops);
      }

  -- and what a fault of its inputs left
  fault_leaves : end.feed ≡ feed.ReadFault → BeginsRun task mid s →
      ForWords task s (λ words. LeavesAtFault task words (is_calm before) old new (Some end.blocks))
  fault_leaves failed begun words says =
      let at = fed.place in
      let names = names_at feeder in
      let blocks = sealed_at_end end.blocks in
      let broke = fed.broke failed old read.reads in
      let Cut : ℕ → Type 0 = λ size. OfRunTo (opened_at at) old s (λ w. IsCutAt w at size blocks) in
      let Stood : List (List ℕ) → Type 0 = λ ns. OfRunAt (with_firsts (at.file + 1) s) old s
      (λ w. BreaksIf at.is_open ns w old new at) in
      let Shut : List (List ℕ) → Type 0 = λ ns. OfRunAt (with_firsts at.file s) old s
      (λ w. IsShut ns w old new at.transfer at.file at.since) in
      let Through : List (List ℕ) → ℕ → FileStream → Type 0 = λ ns k w.
      IsPrefix (history (read_before ns w k old)) (history new) in
      let Lacks : List (List ℕ) → Told → Type 0 = λ ns t.
      (at.file < length ns) × ¬ IsSome (t.bytes_under (file_name ns at.file)) in
      let Missing : SettingsFor task → Type 0 = λ t. Lacks t.names old in
      record {
        at = at;
        begun = begins_by once task words s old mid says read.names begun;
        there = for_settings once task words s (λ t. at.file < length t.names) says
            (subst (λ ns. at.file < length ns) plan.files (fed.sealed.there (λ bytes whole. cc)));
        passed = passes_to once task words s old at.file says
            (passes_run feeder s old new at.file plan same broke.passed);
        cut = for_files once task (λ t. up_to (opened_at at) t) words s old (λ t w. IsCutAt w at t.size blocks) says
            (subst Cut plan.block (of_plan (λ starts count k. k < opened_at at) feeder s old new
            (λ w. IsCutAt w at (block_size feeder) blocks) plan same broke.cut));
        stood = for_files once task (λ t. with_firsts (at.file + 1) t) words s old
            (λ t w. BreaksIf at.is_open t.names w old new at) says
            (subst Stood plan.files (of_plan (IsAmong (at.file + 1)) feeder s old new
            (λ w. BreaksIf at.is_open names w old new at) plan same broke.stood));
        past = for_settings once task words s (λ t. IsCutPast (plan_for t) old at t.size blocks) says
            (subst (λ (size : ℕ). IsCutPast (plan_for s) old at size blocks) plan.block
            (cuts_stay (plan_at feeder) (plan_for s) old new at (block_size feeder) blocks plan.files plan.transfers
            plan.limit same broke.past));
        through = λ k below. for_files once task (λ t. with_firsts k t) words s old (λ t w. Through t.names k w) says
            (subst (λ ns. OfRunAt (with_firsts k s) old s (Through ns k)) plan.files
            (of_plan (IsAmong k) feeder s old new (Through names k) plan same (broke.through k below)));
        missing = λ is. for_settings once task words s Missing says
            (subst (λ ns. Lacks ns old) plan.files
            (lacks_before names at.file (fed.missing (read.calm is) failed)));
        shut = λ is. broke.shut (read.calm is);
        unopened = λ is. for_files once task (λ t. with_firsts at.file t) words s old
            (λ t w. IsShut t.names w old new at.transfer at.file at.since) says
            (subst Shut plan.files (of_plan (IsAmong at.file) feeder s old new
            (λ w. IsShut names w old new at.transfer at.file at.since) plan same
            (broke.unopened (read.calm is))));
      }
    where
      lacks_before : (names : List (List ℕ)) (file : ℕ) →
          (file < length names) × ¬ IsSome (mid.bytes_under (file_name names file)) →
          (file < length names) × ¬ IsSome (old.bytes_under (file_name names file))
      lacks_before names file lacks =
          let Without : (List ℕ → Option (List ℕ)) → Type 0 = λ under. ¬ IsSome (under (file_name names file)) in
          (lacks.0, subst Without read.names lacks.1)

pub sessions_feed : {I F : Type 0} → WordsSayOnce → (told : I → Told) (is_calm : I → Type 0) (faults : I → ℕ) →
    SessionsFeedFiles F told is_calm faults
sessions_feed once told is_calm faults feeder end fed task s before plan read =
    let old = told before in
    let new = told end.inputs.now in
    record {
      fed = is_fed once told is_calm faults feeder end fed task s before plan read;
      broken = fault_leaves once told is_calm faults feeder end fed task s before plan read;
      serves = λ calm holds. fed.serves (read.calm calm)
          (hold_still old (told feeder.inputs.now) s.names (names_at feeder) read.names plan.files holds);
      through = λ bytes whole. all_of_plan feeder s old new
          (λ w. (k : ℕ) → k < length w.starts → data_through end k ≡ transfer_data w k) plan (fed.names ∙ read.names)
          (fed.walked bytes whole);
      few = λ bytes whole.
          few_bytes (plan_at feeder) new fed.place (block_size feeder) _ _ end.feed bytes s.max_bytes fed.sealed whole
          plan.limit;
    }

-- ---- what is recorded

pub recordings_said : WordsSayOnce → RecordingsAreSaid
recordings_said once task s old new blocks feed answer before after same by words says =
    let sealed = sealed_at_end blocks in
    record {
      unrecorded = λ t says' not.
          by.unrecorded (ap (λ (u : SettingsFor task). u.recording) (once task words s t says says') ∙ not);
      ended = λ t says' is.
          by.ended (ap (λ (u : SettingsFor task). u.recording) (once task words s t says says') ∙ is);
      as_fed = by.as_fed;
      made = λ end is. for_files once task (λ t. firsts t) words s old
          (λ t w. MadeBy end (files_of_stream w t.file_size sealed) before after) says
          (before_reading (firsts s) s old new
          (λ w. MadeBy end (files_of_stream w s.file_size sealed) before after) same (by.made end is));
      rose = by.rose;
      quiet = by.quiet;
      count = by.count;
    }
