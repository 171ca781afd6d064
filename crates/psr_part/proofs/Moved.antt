-- What is said of files that are told, once CHECK was read.
use Rattle.std.proofs.Common.{◌≡◌, ℕ, ◌+◌, ◌<◌, List, [], ◌∷◌, length, Bool, true, false, Option, Some, None, refl, ◌∙◌, subst, arith, lit<}
use Rattle.std.specs.Prelude.{IsSome, if◌then◌else◌}
use Rattle.std.specs.Str.{bytes_eq}
use Rattle.psr_base.specs.Count.{Rose}
use Rattle.psr_base.specs.Inputs.{HasReadFrom}
use Rattle.psr_base.specs.Told.{Told, OfFile}
use Rattle.search_model.specs.Parts.{check_line}
use Rattle.search_words.specs.Settings.{SettingsSeen}
use Rattle.stream_model.specs.Walk.{FileStream, stop_at}
use Rattle.ring_ends.specs.declared.finished.Finished.{Finished}
use Rattle.ring_ends.specs.Ended.{sealed_at_end}
use Rattle.disk_feeder.specs.declared.answers.FeedEnd.{FeedEnd}
use Rattle.disk_feeder.specs.Feeding.{EndIs, StopsWalkAt}
use Rattle.disk_feeder.specs.Filling.{HoldsAll}
use Rattle.disk_feeder.specs.History.{file_name}
use Rattle.disk_feeder.specs.Plan.{AreTold, AreToldAt, IsFirstFile}
use Rattle.disk_feeder.specs.Reading.{judged_at}
use Rattle.disk_feeder.specs.declared.answers.HeaderCause.TheVariants.{Text, Fields}
use Rattle.warm_restart.specs.declared.checkpoint.Checkpoint.{Checkpoint}
use Rattle.warm_restart.specs.Named.{new_word}
use Rattle.run_outcome.specs.declared.stop.Stop.{Stop}
use Rattle.run_outcome.specs.declared.stop.Stop.TheVariants.{Header, Plan, Recording, Memory, ReadFault}
use Rattle.run_outcome.specs.Lone.{LoneSearch, SayAlone}
use Rattle.run_outcome.specs.Firsts.{first_name, EachFirst, RefusesFieldsAt, RefusesFirstFields}
use Rattle.run_outcome.specs.Runs.{Task, Alone, ForFilesAt, ForFirsts, ForFilesTo, JudgesFirsts, BeginsByFirsts, MayBegin, CanBegin, RefusesSearch, RefusesSearchAt, RefusesToRecord, RefusesRecordingAt}
use Rattle.run_outcome.specs.Outcomes.{LeavesAtFault}
use Rattle.run_outcome.specs.Ends.{CountsFaults, StopsBefore, SaysBefore, IsRunFed}
use Rattle.search_opening.specs.Settings.{OfRun, OfRunFirsts}
use Rattle.psr_part.specs.Part.{check_word, check_names, check_text_of, part_search}

-- the words say the same settings whatever the checkpoint is
pub says_any : (words : List (List ℕ)) (c d : Checkpoint) (s : SettingsSeen) →
    SayAlone (part_search words c) words s → SayAlone (part_search words d) words s
says_any words c d s is = record { form = is.form; search = is.search; made = is.made }

-- files are told as long as what is told under the names stands
still_told : (old new : Told) (names files : List (List ℕ)) → new.bytes_under ≡ old.bytes_under →
    AreTold old names files → AreTold new names files
still_told old new names files same are = record {
  count = are.count;
  each = λ k below.
      rw same (are.each k below);
}

-- those that are needed are told where all are
pub needed_told : (told : Told) (names files : List (List ℕ)) → AreTold told names files → {Needed : ℕ → Type 0} →
    AreToldAt Needed told names files
needed_told told names files are = record { count = are.count; each = λ k below needed. are.each k below }

-- and they are as long as the others
needed_still_told : (Needed : ℕ → Type 0) (old new : Told) (names files : List (List ℕ)) →
    new.bytes_under ≡ old.bytes_under → AreToldAt Needed old names files → AreToldAt Needed new names files
needed_still_told Needed old new names files same are = record {
  count = are.count;
  each = λ k below needed.
      rw same (are.each k below needed);
}

pub of_run : (s : SettingsSeen) (old new : Told) (P : FileStream → Type 0) → new.bytes_under ≡ old.bytes_under →
    OfRun new s P → OfRun old s P
of_run s old new P same holds files are = holds files (still_told old new s.names files same are)

pub of_run_firsts : (s : SettingsSeen) (old new : Told) (P : FileStream → Type 0) →
    new.bytes_under ≡ old.bytes_under → OfRunFirsts new s P → OfRunFirsts old s P
of_run_firsts s old new P same holds files are =
    holds files (needed_still_told (IsFirstFile s.starts (length s.names)) old new s.names files same are)

module _ (lone : LoneSearch) (words : List (List ℕ)) (old new : Told) (same : new.bytes_under ≡ old.bytes_under) where
  abbrev task : Task
  task = Alone lone

  for_files_at : (Needed : SettingsSeen → ℕ → Type 0) (P : SettingsSeen → FileStream → Type 0) →
      ForFilesAt task Needed words new P → ForFilesAt task Needed words old P
  for_files_at Needed P holds s files says are =
      holds s files says (needed_still_told (Needed s) old new s.names files same are)

  for_firsts : (P : SettingsSeen → FileStream → Type 0) → ForFirsts task words new P → ForFirsts task words old P
  for_firsts = for_files_at (λ s. IsFirstFile s.starts (length s.names))

  for_files_to : (opened : ℕ) (P : SettingsSeen → FileStream → Type 0) → ForFilesTo opened task words new P →
      ForFilesTo opened task words old P
  for_files_to opened = for_files_at (λ s k. k < opened)

  of_file : (name : List ℕ) {P : List ℕ → Type 0} → OfFile new name P → OfFile old name P
  of_file name says bytes is = says bytes (rw same is)

  each_first : (names : List (List ℕ)) (starts : List ℕ) (count : ℕ) {P : List ℕ → Type 0} →
      EachFirst new names starts count P → EachFirst old names starts count P
  each_first names starts count each k less = of_file (first_name names starts k) (each k less)

  judges_firsts : (Each : SettingsSeen → Told → Type 0) (P : SettingsSeen → FileStream → Type 0) →
      ((s : SettingsSeen) → Each s new → Each s old) → JudgesFirsts task words new (λ s. Each s new) P →
      JudgesFirsts task words old (λ s. Each s old) P
  judges_firsts Each P stands says = (λ s said. stands s (says.0 s said), for_firsts P says.1)

  begins : BeginsByFirsts task words new → BeginsByFirsts task words old
  begins = judges_firsts (λ s told. MayBegin task s told) (λ s w. CanBegin task s w) (λ s r. record {
    accepted = each_first s.names s.starts (length s.starts) r.accepted;
    searched = each_first s.names s.starts (length s.starts) r.searched;
    recorded = λ is. each_first s.names s.starts (length s.starts) (r.recorded is);
  })

  says_before : (stop : Stop) → SaysBefore task words new stop → SaysBefore task words old stop
  says_before (Header file (Text fault)) says = λ s said. let r = says s said in record {
    transfer = r.transfer;
    there = r.there;
    is = r.is;
    refused = of_file (file_name s.names file) r.refused;
    earlier = λ k less. of_file (first_name s.names s.starts k) (r.earlier k less);
  }
  says_before (Header file (Fields fault)) says =
      judges_firsts (λ s told. RefusesFieldsAt told s.names s.starts file fault)
      (λ s w. RefusesFirstFields w file fault)
      (λ s r. record {
        texts = each_first s.names s.starts (length s.starts) r.texts;
        transfer = r.transfer;
        there = r.there;
        is = r.is;
        refused = of_file (file_name s.names file) r.refused;
        earlier = each_first s.names s.starts r.transfer r.earlier;
      }) says
  says_before (Plan cause) says = (
    says.0,
    judges_firsts (λ s told. RefusesSearchAt s.search s told cause) (λ s w. RefusesSearch s.search w cause) (λ s r. record {
      accepted = each_first s.names s.starts (length s.starts) r.accepted;
      transfer = r.transfer;
      there = r.there;
      refused = of_file (first_name s.names s.starts r.transfer) r.refused;
      earlier = each_first s.names s.starts r.transfer r.earlier;
    }) says.1,
  )
  says_before (Recording cause) says =
      judges_firsts (λ s told. RefusesRecordingAt task s told cause) (λ s w. RefusesToRecord task s w cause)
      (λ s r. record {
        accepted = each_first s.names s.starts (length s.starts) r.accepted;
        searched = each_first s.names s.starts (length s.starts) r.searched;
        records = r.records;
        transfer = r.transfer;
        there = r.there;
        refused = of_file (first_name s.names s.starts r.transfer) r.refused;
        earlier = each_first s.names s.starts r.transfer r.earlier;
      }) says
  says_before Memory says = tt
  says_before ReadFault says = tt
  says_before stop says = absurd says

  pub stops_before : (stop : Stop) → StopsBefore task words new stop → StopsBefore task words old stop
  stops_before stop is = record { kind = is.kind; says = says_before stop is.says }

  pub is_run_fed : (blocks : Finished) (feed : FeedEnd) → IsRunFed task words new blocks feed →
      IsRunFed task words old blocks feed
  is_run_fed blocks feed is = record {
    begun = begins is.begun;
    at = is.at;
    last = is.last;
    there = is.there;
    names = is.names;
    limit = is.limit;
    passed = λ k less. for_files_to (k + 1) (λ s w. stop_at w k ≡ None) (is.passed k less);
    walked = for_files_to (judged_at feed is.at) (λ s w. EndIs w s.size (sealed_at_end blocks) feed) is.walked;
    stops = for_files_to (judged_at feed is.at) (λ s w. StopsWalkAt feed w is.at.file) is.stops;
  }

-- what a fault leaves where the inputs are calm, of inputs that are so where these are
pub where_calm : (task : Task) (words : List (List ℕ)) (first next : Type 0) (before after : Told)
    (blocks : Option Finished) → (first → next) → LeavesAtFault task words next before after blocks →
    LeavesAtFault task words first before after blocks
where_calm task words first next before after None calm is = λ s said. let b = is s said in record {
  transfer = b.transfer;
  there = b.there;
  earlier = b.earlier;
  broke = b.broke;
  through = b.through;
  missing = λ c. b.missing (calm c);
  unopened = λ c. b.unopened (calm c);
}
where_calm task words first next before after (Some blocks) calm is = record {
  at = is.at;
  begun = is.begun;
  there = is.there;
  passed = is.passed;
  cut = is.cut;
  stood = is.stood;
  past = is.past;
  through = is.through;
  missing = λ c. is.missing (calm c);
  shut = λ c. is.shut (calm c);
  unopened = λ c. is.unopened (calm c);
}

hold_still : (old new : Told) (names : List (List ℕ)) → new.bytes_under ≡ old.bytes_under → HoldsAll old names →
    HoldsAll new names
hold_still old new names same holds k below =
    rw same (holds k below)

-- ---- faults, where CHECK was read without one

pub counts_through : {I : Type 0} (told : I → Told) (is_calm : I → Type 0) (faults : I → ℕ) (first next : Type 0)
    (old mid new : I) (names more : List (List ℕ)) → HasReadFrom told is_calm faults first old mid → (first → ⊥) →
    HasReadFrom told is_calm faults next mid new →
    (is_calm mid → HoldsAll (told mid) names → next → ⊥) →
    CountsFaults (record { told = told old; faults_before = faults old; faults_after = faults new })
    (is_calm old × HoldsAll (told old) more) names next
counts_through told is_calm faults first next old mid new names more a not b serves =
    let still = a.quiet not in
    let rest = b.count in
    record {
      rose = λ failed. subst (λ n. Rose n (faults new)) still (b.rose failed);
      quiet = λ fine. b.quiet fine ∙ still;
      count = omega (arith, still, rest);
      serves = λ calm holds failed.
          serves (a.calm calm.0) (hold_still (told old) (told mid) names a.names holds) failed;
    }

-- and where it was refused
pub counts_none : {I : Type 0} (told : I → Told) (is_calm : I → Type 0) (faults : I → ℕ) (failed : Type 0)
    (old new : I) (names : List (List ℕ)) (calm : Type 0) → HasReadFrom told is_calm faults failed old new →
    (failed → ⊥) →
    CountsFaults (record { told = told old; faults_before = faults old; faults_after = faults new }) calm names ⊥
counts_none told is_calm faults failed old new names calm read not = record {
  rose = λ f. absurd f;
  quiet = λ fine. read.quiet not;
  count = read.count;
  serves = λ c holds f. f;
}

-- and where it could not be read
pub counts_failed : {I : Type 0} (told : I → Told) (is_calm : I → Type 0) (faults : I → ℕ) (failed : Type 0)
    (old new : I) (names : List (List ℕ)) (calm : Type 0) → HasReadFrom told is_calm faults failed old new → failed →
    (calm → ⊥) →
    CountsFaults (record { told = told old; faults_before = faults old; faults_after = faults new }) calm names
    (ReadFault ≡ ReadFault)
counts_failed told is_calm faults failed old new names calm read f serves = record {
  rose = λ e. read.rose f;
  quiet = λ fine. absurd (fine refl);
  count = read.count;
  serves = λ c holds e. serves c;
}

held : (is_new : Bool) (word : List ℕ) (told : Told) → HoldsAll told (if is_new then [] else word ∷ []) →
    IsSome (if is_new then Some (check_line 0 0) else told.bytes_under word)
held true word told holds = refl
held false word told holds = holds 0 (lit< tt)

-- inputs that hold CHECK tell its text
pub check_held : (told : Told) (words : List (List ℕ)) → HoldsAll told (check_names words) →
    IsSome (check_text_of told words)
check_held told words holds = held (bytes_eq (check_word words) new_word) (check_word words) told holds
