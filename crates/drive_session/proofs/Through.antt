-- What a session left, over the files of a run.
use Rattle.std.proofs.Common.{◌≡◌, ◌≢◌, ℕ, ◌+◌, ◌^◌, ◌<◌, ◌≤◌, true, List, Option, Some, None, length, map, refl, sym, ap, ◌∙◌, subst, arith}
use Rattle.std.specs.List.{sum_by, range_with_len}
use Rattle.std.proofs.lemmas.List.{length-map}
use Rattle.arrayvec.specs.ArrayVec.{ArrayVec}
use Rattle.candidate_book.specs.Book.{BookContents}
use Rattle.std.proofs.lemmas.Bool.{true≢false}
use Rattle.psr_base.specs.Told.{Told}
use Rattle.psr_base.specs.Made.{NamedBytes, FilesSeen}
use Rattle.dada_model.specs.Observation.{Observation}
use Rattle.search_model.specs.declared.search.Search.{Search}
use Rattle.search_model.specs.Search.{SettingsInRange}
use Rattle.search_words.specs.Settings.{SettingsOf}
use Rattle.ring_ends.specs.declared.finished.Finished.{Finished}
use Rattle.ring_ends.specs.Ended.{sealed_at_end, cleared_at_end}
use Rattle.disk_feeder.specs.declared.answers.FeedEnd.{FeedEnd}
use Rattle.disk_feeder.specs.declared.answers.FeedEnd.TheVariants.{Whole}
use Rattle.disk_feeder.specs.declared.feeder.Feeder.{Feeder}
use Rattle.disk_feeder.specs.Feeder.{headers_of, plan_at}
use Rattle.dada_recorder.specs.declared.answers.RecordEnd.{RecordEnd}
use Rattle.dada_recorder.specs.declared.answers.RecordEnd.TheVariants.{FileFault}
use Rattle.dada_recorder.specs.declared.recorder.Recorder.{Recorder}
use Rattle.dada_recorder.specs.Blocks.{RecordPlan, files_of_blocks}
use Rattle.dada_recorder.specs.Recorder.{plan_of}
use Rattle.session_readers.specs.declared.bank.Bank.{Bank}
use Rattle.search_session.specs.declared.ended.SessionEnd.{SessionEnd}
use Rattle.search_session.specs.Recorded.{RecordedBy, HasNoRecording, SealsRecordable, files_through, headers_through}
use Rattle.search_session.specs.Sessions.{FeedAnswers, ShardAnswers, AreBanksFor, HoldFound, data_through}
use Rattle.transfer_text.specs.Found.{HoldTransfers}
use Rattle.transfer_text.specs.Laws.{TotalsAreCounted}
use Rattle.search_opening.specs.Engines.{AreOpenedBanks}
use Rattle.search_opening.specs.Plans.{PlansFit}
use Rattle.search_opening.specs.declared.space.StageSpace.{StageSpace}
use Rattle.search_opening.specs.Space.{banks_in}
use Rattle.run_outcome.specs.Laws.{RunsRecordBlocks}
use Rattle.run_outcome.specs.Ends.{IsRunFed, EndsAsFed}
use Rattle.run_outcome.specs.Outcomes.{AllCleared, MadeBy, files_of_stream}
use Rattle.run_outcome.specs.Runs.{Task, Searching, RecordingAlone, Alone, SearchFor, SettingsFor, IfSearch, stream_for}
use Rattle.drive_session.specs.declared.found.Found.{Found}
use Rattle.search_opening.specs.Ended.{FirstsStayTold, HasReadSince, HasFed, HasFedFiles, RecordsRun, RecordingsAreSaid}
use Rattle.search_opening.specs.Settings.{ForWords, OfRunFirsts, BeginsRun}
use Rattle.drive_session.specs.Wholes.{ClearsAll, HoldsFound, IsDriven, shards_of}
use Rattle.search_opening.specs.Ready.{IsReady}
use Rattle.drive_session.specs.Sessions.{RecordsReady, SearchesReady}
use Rattle.search_opening.specs.Spaces.{AreBanksOf, plan_for}
use Rattle.drive_session.specs.Ends.{IsFoundOf}
use Rattle.drive_session.proofs.Recorded.{as_many, is_recordable, records_firsts, ends_as_fed, made_by}
use Rattle.drive_session.proofs.Lists.{some_at}
use Rattle.drive_session.proofs.Searched.{said_at, transfers_through, banks_for, hold_transfers, transfers_are_counted, known_transfers}

-- ---- the feeder

-- what it did for the settings whose files it reads, it did of what was found
pub feeds_found : {I F : Type 0} (told : I → Told) (is_calm : I → Type 0) (feeder : Feeder I) (end : SessionEnd I F)
    (observations : ArrayVec (Option Observation)) (found : Found) (after : I) →
    HasFedFiles told is_calm feeder end.inputs.now end.blocks end.feed → IsFoundOf observations end found →
    after ≡ end.inputs.now → HasFedFiles told is_calm feeder after found.blocks found.feed
feeds_found {I} told is_calm feeder end observations found after feeds is same =
    let Feeds : I → Finished → FeedEnd → Type 0 = λ i b f. HasFedFiles told is_calm feeder i b f in
    subst (λ i. Feeds i found.blocks found.feed) (sym same)
    (subst (λ b. Feeds end.inputs.now b found.feed) (sym is.blocks)
    (subst (λ f. Feeds end.inputs.now end.blocks f) (sym is.feed) feeds))

-- ---- what was cleared

banks_count : (task : Task) (s : SettingsFor task) (observations : List (Option Observation)) (banks : List (Option Bank)) →
    AreBanksOf task s observations banks → length banks ≡ shards_of task s
banks_count Searching s observations banks are = are.count
banks_count RecordingAlone s observations banks are = ap length are
banks_count (Alone lone) s observations banks are = absurd are

-- ---- the search

-- what follows of the search, where there is one
if_search : {P Q : Search → Type 0} (task : Task) (search : SearchFor task) → ((found : Search) → P found → Q found) →
    IfSearch task search P → IfSearch task search Q
if_search Searching search follows holds = follows search holds
if_search RecordingAlone search follows holds = tt
if_search (Alone lone) search follows holds = follows search holds

-- its banks are opened, and it fits
record IsOpenedSearch (search : Search) (observations : List (Option Observation)) (banks : List (Option Bank)) :
    Type 0 where
  pub banks_are : AreOpenedBanks search observations banks
  pub range : SettingsInRange search
  pub fits : PlansFit search observations

opened_search : (task : Task) (s : SettingsFor task) (observations : List (Option Observation))
    (banks : List (Option Bank)) → AreBanksOf task s observations banks → IfSearch task s.search SettingsInRange →
    IfSearch task s.search (λ search. PlansFit search observations) →
    IfSearch task s.search (λ search. IsOpenedSearch search observations banks)
opened_search Searching s observations banks are range fits =
    record { banks_are = are; range = range; fits = fits }
opened_search RecordingAlone s observations banks are range fits = tt
opened_search (Alone lone) s observations banks are range fits = absurd are

-- ---- the files

-- the files of what went through are those of the run
same_files : {I F : Type 0} → RunsRecordBlocks → (told : I → Told) (is_open : I → Type 0) (task : Task)
    (s : SettingsFor task) (offsets : List ℕ) (feeder : Feeder I) (observations : List (Option Observation))
    (stage : StageSpace I F) (r : Recorder F) (end : SessionEnd I F) →
    IsReady told is_open task s offsets feeder observations stage → s.recording ≡ true →
    plan_of r ≡ plan_for s offsets →
    OfRunFirsts (told feeder.inputs.now) s (λ w. files_through feeder r end
    ≡ files_of_stream w s.file_size (sealed_at_end end.blocks))
same_files law told is_open task s offsets feeder observations stage r end ready records plan files are =
    let w = stream_for s files in
    ap (λ (p : RecordPlan). files_of_blocks p (headers_through feeder end) (sealed_at_end end.blocks)) plan
    ∙ law (plan_for s offsets) w (headers_of feeder) (sealed_at_end end.blocks)
    (records_firsts told is_open task s offsets feeder observations stage w ready records refl (ready.firsts files are)
    (ready.headers files are))

-- what its recorder ended with, and made
records_run : {I F : Type 0} → RunsRecordBlocks → (told : I → Told) (is_open : I → Type 0) (files_open : F → Type 0)
    (seen : F → FilesSeen) (task : Task) (s : SettingsFor task) (offsets : List ℕ) (feeder : Feeder I)
    (observations : List (Option Observation)) (stage : StageSpace I F) (r : Recorder F) (reader : ℕ)
    (end : SessionEnd I F) →
    RecordsReady told is_open files_open task s offsets feeder observations stage r →
    SealsRecordable (plan_of r) (plan_at feeder) → (by : RecordedBy files_open seen feeder r reader end) →
    RecordsRun s (told feeder.inputs.now) end.blocks end.feed (Some by.answer) (seen r.files.now) (seen by.files.now)
records_run law told is_open files_open seen task s offsets feeder observations stage r reader end ready recordable by =
    let before = seen r.files.now in
    let after = seen by.files.now in
    let files = files_through feeder r end in
    let ends = by.ends recordable in
    record {
      unrecorded = λ not. absurd (true≢false (sym ready.records ∙ not));
      ended = λ is. refl;
      as_fed = λ answer is.
          subst (λ a. EndsAsFed end.feed a) (same_answer by.answer answer is)
          (ends_as_fed end.feed files by.answer ends);
      made = λ answer is firsts are.
          let Made : List NamedBytes → RecordEnd → Type 0 = λ made a. MadeBy a made before after in
          let of_stream = files_of_stream (stream_for s firsts) s.file_size (sealed_at_end end.blocks) in
          subst (λ a. Made of_stream a) (same_answer by.answer answer is)
          (subst (λ made. Made made by.answer) (same_files law told is_open task s offsets feeder observations stage r
          end ready.ready ready.records ready.fresh.plan_is firsts are)
          (made_by end.feed files before after by.answer ends (by.made recordable) by.failed by.quiet by.count));
      rose = λ failed. by.failed (same_answer by.answer FileFault failed);
      quiet = λ not. by.quiet (λ failed. not (ap (λ a. Some a) failed));
      count = by.count;
    }
  where
    same_answer : (one other : RecordEnd) → Some one ≡ Some other → one ≡ other
    same_answer one other is = cc

-- and so of what was found
records_found : {I F S : Type 0} (s : SettingsOf S) (told : Told) (observations : ArrayVec (Option Observation))
    (end : SessionEnd I F) (found : Found) (before after : FilesSeen) → IsFoundOf observations end found →
    RecordsRun s told end.blocks end.feed end.recorded before after →
    RecordsRun s told found.blocks found.feed found.recorded before after
records_found s told observations end found before after is records =
    let Records : Finished → FeedEnd → Option RecordEnd → Type 0 = λ b f a. RecordsRun s told b f a before after in
    subst (λ b. Records b found.feed found.recorded) (sym is.blocks)
    (subst (λ f. Records end.blocks f found.recorded) (sym is.feed)
    (subst (λ a. Records end.blocks end.feed a) (sym is.recorded) records))

-- ---- all of it

clears_shards : {I F : Type 0} (task : Task) (s : SettingsFor task) (observations : List (Option Observation))
    (banks : List (Option Bank)) (end : SessionEnd I F) → AreBanksOf task s observations banks →
    ((k : ℕ) → k < length banks → cleared_at_end end.blocks k ≡ sealed_at_end end.blocks) →
    IfSearch task s.search (λ search. AllCleared end.blocks 0 search.shards)
clears_shards Searching s observations banks end are cleared = λ k below.
    let count = are.count in
    let at : 0 + k ≡ k = omega arith in
    ap (cleared_at_end end.blocks) at ∙ cleared k (omega (arith, below, count))
clears_shards RecordingAlone s observations banks end are cleared = tt
clears_shards (Alone lone) s observations banks end are cleared = absurd are

clears_recorder : {I F : Type 0} (task : Task) (s : SettingsFor task) (observations : List (Option Observation))
    (banks : List (Option Bank)) (end : SessionEnd I F) → AreBanksOf task s observations banks →
    cleared_at_end end.blocks (length banks) ≡ sealed_at_end end.blocks → AllCleared end.blocks (shards_of task s) 1
clears_recorder task s observations banks end are cleared k below =
    let count = banks_count task s observations banks are in
    let at : shards_of task s + k ≡ length banks = omega (arith, below, count) in
    ap (cleared_at_end end.blocks) at ∙ cleared

-- what a session without a recorder, or with one, came to
pub clears_found : {I F : Type 0} (task : Task) (s : SettingsFor task) (observations : List (Option Observation))
    (banks : List (Option Bank)) (end : SessionEnd I F) (found : Found) → AreBanksOf task s observations banks →
    ((k : ℕ) → k < length banks → cleared_at_end end.blocks k ≡ sealed_at_end end.blocks) →
    (s.recording ≡ true → found.recorded ≢ Some FileFault →
    cleared_at_end end.blocks (length banks) ≡ sealed_at_end end.blocks) → found.blocks ≡ end.blocks →
    ClearsAll task s found
clears_found task s observations banks end found are shards recorder blocks =
    let Last : Finished → Type 0 = λ b. AllCleared b (shards_of task s) 1 in
    record {
      shards = if_search task s.search (λ search. subst (λ b. AllCleared b 0 search.shards) (sym blocks))
          (clears_shards task s observations banks end are shards);
      recorder = λ records fine. subst Last (sym blocks)
          (clears_recorder task s observations banks end are (recorder records fine));
    }

holds_search : {I F : Type 0} → TotalsAreCounted → FirstsStayTold → (told : I → Told)
    (is_open is_calm : I → Type 0) (faults : I → ℕ) (task : Task) (s : SettingsFor task) (offsets : List ℕ)
    (feeder : Feeder I) (observations : ArrayVec (Option Observation)) (stage : StageSpace I F)
    (banks : List (Option Bank)) (end : SessionEnd I F) (found : Found) (before : I) →
    (ready : IsReady told is_open task s offsets feeder observations.items stage) →
    banks ≡ ready.stage_is.banks.items → FeedAnswers told is_calm faults feeder end →
    ShardAnswers (length (plan_at feeder).starts) banks end → IsFoundOf observations end found →
    HasReadSince told is_calm before feeder →
    HasFed told is_calm task s before feeder end.inputs.now end.blocks end.feed → (search : Search) →
    IsOpenedSearch search observations.items ready.stage_is.banks.items → (bytes : ℕ) → found.feed ≡ Whole bytes →
    HoldsFound search s (told before) found
holds_search law stay told is_open is_calm faults task s offsets feeder observations stage banks end found before ready
    same fed shards is read has search opens bytes whole =
    let said = ready.observed.said in
    let here = ready.observed.here in
    let feed_whole : end.feed ≡ Whole bytes = sym is.feed ∙ whole in
    let many = as_many (headers_of feeder) observations.items ready.observed in
    let count = ap length here ∙ length-map said Some in
    let starts = ap length ready.plan.transfers in
    let headers = ready.plan.headers in
    let some : 0 < length said = omega (arith, many, count, starts, headers, ready.some) in
    let other = (some_at said 0 some).0 in
    let few = has.few bytes feed_whole in
    let most = ready.most in
    let opened : AreOpenedBanks search observations.items banks =
    subst (λ ls. AreOpenedBanks search observations.items ls) (sym same) opens.banks_are in
    let n : length (plan_at feeder).starts ≡ length said = omega (arith, many, count, starts, headers) in
    let held = subst (λ m. HoldFound search (said_at said other) (data_through end) m end) n
    (shards.held search (said_at said other) (data_through end) bytes feed_whole
    (subst (λ m. AreBanksFor search (said_at said other) m banks) (sym n)
    (banks_for search observations.items banks said other opened here opens.range.parts.least_shards)) (λ k below. refl)) in
    let total : sum_by (λ k. length (data_through end k)) (range_with_len 0 (length said)) ≤ 2 ^ 48 =
    subst (λ m. sum_by (λ k. length (data_through end k)) (range_with_len 0 m) ≤ 2 ^ 48) n
    (subst (λ m. m ≤ 2 ^ 48) (sym (fed.parts bytes feed_whole)) (omega (arith, few, most))) in
    let transfers = transfers_through end said other (length said) in
    let Held : ArrayVec (Option Observation) → List (ArrayVec (Option BookContents)) → List ℕ → Type 0 =
    λ os books spectra. HoldTransfers search transfers os.items (map (λ row. row.items) books) spectra in
    record {
      transfers = transfers;
      held = subst (λ os. Held os found.books.items found.spectra.items) (sym is.observations_are)
          (subst (λ books. Held observations books.items found.spectra.items) (sym is.books)
          (subst (λ spectra. Held observations end.books.items spectra.items) (sym is.spectra)
          (hold_transfers end search observations.items said other here held)));
      total = transfers_are_counted end search observations.items said other law opens.range here
          (omega (arith, many, count, starts, headers, ready.few)) opens.fits total;
      known = λ files are.
          known_transfers end observations.items said other (stream_for s files) here
          (ready.firsts files (stay s.names s.starts (told before) (told feeder.inputs.now) files read.names
          (record { count = are.count; each = λ k below needed. are.each k below })))
          (has.through bytes feed_whole files are);
    }

pub holds_found : {I F : Type 0} → TotalsAreCounted → FirstsStayTold → (told : I → Told)
    (is_open is_calm : I → Type 0) (faults : I → ℕ) (task : Task) (s : SettingsFor task) (offsets : List ℕ)
    (feeder : Feeder I) (observations : ArrayVec (Option Observation)) (stage : StageSpace I F)
    (banks : List (Option Bank)) (end : SessionEnd I F) (found : Found) (before : I) →
    (ready : IsReady told is_open task s offsets feeder observations.items stage) →
    banks ≡ ready.stage_is.banks.items → FeedAnswers told is_calm faults feeder end →
    ShardAnswers (length (plan_at feeder).starts) banks end → IsFoundOf observations end found →
    HasReadSince told is_calm before feeder →
    HasFed told is_calm task s before feeder end.inputs.now end.blocks end.feed →
    IfSearch task s.search (λ search. (bytes : ℕ) → found.feed ≡ Whole bytes → HoldsFound search s (told before) found)
holds_found law stay told is_open is_calm faults task s offsets feeder observations stage banks end found before ready
    same fed shards is read has =
    if_search task s.search
    (λ search opens. holds_search law stay told is_open is_calm faults task s offsets feeder observations stage banks end
    found before ready same fed shards is read has search opens)
    (opened_search task s observations.items ready.stage_is.banks.items ready.stage_is.banks_are ready.range
    ready.fit.fits)

-- ---- the whole

pub begins : {I F : Type 0} (told : I → Told) (is_open : I → Type 0) (task : Task) (s : SettingsFor task) (offsets : List ℕ)
    (feeder : Feeder I) (observations : List (Option Observation)) (stage : StageSpace I F) →
    IsReady told is_open task s offsets feeder observations stage →
    BeginsRun task (told feeder.inputs.now) s
begins told is_open task s offsets feeder observations stage ready = (
  ready.begins,
  λ files are.
      let w = stream_for s files in
      let firsts = ready.firsts files are in
      record {
        accepted = firsts.walked;
        searched = if_search task s.search (λ search can. can w firsts) ready.fit.searched;
        recorded = λ is. ready.fit.recorded is w firsts (ready.headers files are) refl;
      },
)

-- what the feeder of a run that was ready did, of what was found
fed_found : {I F : Type 0} (told : I → Told) (is_open is_calm : I → Type 0) (task : Task) (s : SettingsFor task)
    (offsets : List ℕ) (feeder : Feeder I) (observations : ArrayVec (Option Observation)) (stage : StageSpace I F)
    (end : SessionEnd I F) (found : Found) (before : I) →
    IsReady told is_open task s offsets feeder observations.items stage → IsFoundOf observations end found →
    HasFed told is_calm task s before feeder end.inputs.now end.blocks end.feed →
    ForWords task s (λ words. IsRunFed task words (told before) found.blocks found.feed)
fed_found told is_open is_calm task s offsets feeder observations stage end found before ready is has =
    let Fed : Finished → FeedEnd → Type 0 = λ b f.
    ForWords task s (λ words. IsRunFed task words (told before) b f) in
    subst (λ b. Fed b found.feed) (sym is.blocks)
    (subst (λ f. Fed end.blocks f) (sym is.feed)
    (has.fed (begins told is_open task s offsets feeder observations.items stage ready)))

banks_of_stage : {I F : Type 0} (told : I → Told) (is_open : I → Type 0) (task : Task) (s : SettingsFor task)
    (offsets : List ℕ) (feeder : Feeder I) (observations : List (Option Observation)) (stage : StageSpace I F)
    (banks : List (Option Bank)) → (ready : IsReady told is_open task s offsets feeder observations stage) →
    banks ≡ (banks_in stage).items → banks ≡ ready.stage_is.banks.items
banks_of_stage told is_open task s offsets feeder observations stage banks ready same =
    same ∙ ap (λ ls. ls.items) ready.stage_is.space.banks_are

pub goes_with : {I F : Type 0} → RunsRecordBlocks → TotalsAreCounted → FirstsStayTold → RecordingsAreSaid →
    (told : I → Told) (is_open is_calm : I → Type 0) (faults : I → ℕ) (files_open : F → Type 0) (seen : F → FilesSeen)
    (task : Task) (s : SettingsFor task) (offsets : List ℕ) (feeder : Feeder I)
    (observations : ArrayVec (Option Observation)) (stage : StageSpace I F) (r : Recorder F)
    (banks : List (Option Bank)) (end : SessionEnd I F) (found : Found) (after : F) (before : I) →
    RecordsReady told is_open files_open task s offsets feeder observations.items stage r →
    banks ≡ (banks_in stage).items → FeedAnswers told is_calm faults feeder end →
    ShardAnswers (length (plan_at feeder).starts) banks end →
    (by : RecordedBy files_open seen feeder r (length banks) end) →
    IsFoundOf observations end found → after ≡ by.files.now → HasReadSince told is_calm before feeder →
    HasFedFiles told is_calm feeder end.inputs.now end.blocks end.feed →
    IsDriven task s (told before) files_open seen r.files.now after found
goes_with {I} {F} blocks totals stay said told is_open is_calm faults files_open seen task s offsets feeder observations stage r
    banks end found after before ready same fed shards by is made read feeds =
    let ready' = ready.ready in
    let plan = ready.fresh.plan_is in
    let of_stage = banks_of_stage told is_open task s offsets feeder observations.items stage banks ready' same in
    let are : AreBanksOf task s observations.items banks =
    subst (λ ls. AreBanksOf task s observations.items ls) (sym of_stage) ready'.stage_is.banks_are in
    let recordable : SealsRecordable (plan_of r) (plan_at feeder) =
    subst (λ (p : RecordPlan). SealsRecordable p (plan_at feeder)) (sym plan)
    (is_recordable told is_open task s offsets feeder observations.items stage ready' ready.records) in
    let has = feeds task s before ready'.plan read in
    let no_fault : found.recorded ≢ Some FileFault → by.answer ≢ FileFault =
    λ fine failed. fine (is.recorded ∙ by.is ∙ ap (λ a. Some a) failed) in
    let Records : Option RecordEnd → F → Type 0 = λ answer files.
    RecordsRun s (told feeder.inputs.now) end.blocks end.feed answer (seen r.files.now) (seen files) in
    record {
      fed = fed_found told is_open is_calm task s offsets feeder observations stage end found before ready' is has;
      recorded = said task s (told before) (told feeder.inputs.now) found.blocks found.feed found.recorded
          (seen r.files.now) (seen after) read.names
          (records_found s (told feeder.inputs.now) observations end found (seen r.files.now) (seen after) is
          (subst (λ a. Records a after) (sym by.is)
          (subst (λ files. Records (Some by.answer) files) (sym made)
          (records_run blocks told is_open files_open seen task s offsets feeder observations.items stage r
          (length banks) end ready recordable by))));
      stands = λ not. absurd (true≢false (sym ready.records ∙ not));
      closed = λ fine shut. subst (λ (files : F). ¬ files_open files) (sym made) (by.closed (no_fault fine));
      cleared = clears_found task s observations.items banks end found are shards.cleared
          (λ records fine. by.cleared recordable (no_fault fine)) is.blocks;
      held = holds_found totals stay told is_open is_calm faults task s offsets feeder observations stage banks end
          found before ready' of_stage fed shards is read has;
    }

pub goes_without : {I F : Type 0} → TotalsAreCounted → FirstsStayTold → RecordingsAreSaid → (told : I → Told)
    (is_open is_calm : I → Type 0) (faults : I → ℕ) (files_open : F → Type 0) (seen : F → FilesSeen) (task : Task)
    (s : SettingsFor task) (offsets : List ℕ) (feeder : Feeder I) (observations : ArrayVec (Option Observation))
    (stage : StageSpace I F) (banks : List (Option Bank)) (end : SessionEnd I F) (found : Found) (files after : F)
    (before : I) →
    SearchesReady told is_open task s offsets feeder observations.items stage → banks ≡ (banks_in stage).items →
    FeedAnswers told is_calm faults feeder end → ShardAnswers (length (plan_at feeder).starts) banks end →
    HasNoRecording end → IsFoundOf observations end found → after ≡ files → HasReadSince told is_calm before feeder →
    HasFedFiles told is_calm feeder end.inputs.now end.blocks end.feed →
    IsDriven task s (told before) files_open seen files after found
goes_without {I} {F} totals stay said told is_open is_calm faults files_open seen task s offsets feeder observations
    stage banks end found files after before ready same fed shards none is made read feeds =
    let ready' = ready.ready in
    let of_stage = banks_of_stage told is_open task s offsets feeder observations.items stage banks ready' same in
    let are : AreBanksOf task s observations.items banks =
    subst (λ ls. AreBanksOf task s observations.items ls) (sym of_stage) ready'.stage_is.banks_are in
    let no_answer : found.recorded ≡ None = is.recorded ∙ none.recorded in
    let has = feeds task s before ready'.plan read in
    record {
      fed = fed_found told is_open is_calm task s offsets feeder observations stage end found before ready' is has;
      recorded = said task s (told before) (told feeder.inputs.now) found.blocks found.feed found.recorded (seen files)
          (seen after) read.names
          (record {
            unrecorded = λ not. (ap seen made, no_answer);
            ended = λ records. absurd (true≢false (sym records ∙ ready.records_not));
            as_fed = λ answer some. absurd (never answer (sym no_answer ∙ some));
            made = λ answer some. absurd (never answer (sym no_answer ∙ some));
            rose = λ failed. absurd (never FileFault (sym no_answer ∙ failed));
            quiet = λ fine. ap (λ (f : F). (seen f).faults) made;
            count = subst (λ (f : F). (seen files).faults ≤ (seen f).faults) (sym made) (omega arith);
          });
      stands = λ not. made;
      closed = λ fine shut. subst (λ (f : F). ¬ files_open f) (sym made) shut;
      cleared = clears_found task s observations.items banks end found are shards.cleared
          (λ records fine. absurd (true≢false (sym records ∙ ready.records_not))) is.blocks;
      held = holds_found totals stay told is_open is_calm faults task s offsets feeder observations stage banks end
          found before ready' of_stage fed shards is read has;
    }
  where
    never : (answer : RecordEnd) → None ≡ Some answer → ⊥
    never answer is = cc
