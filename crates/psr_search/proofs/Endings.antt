-- How a search ends: before all data were sealed, or with its text.
use Rattle.std.proofs.Common.{◌≡◌, ◌≢◌, ℕ, ◌≤◌, ◌<◌, List, [], ◌∷◌, ◌++◌, refl, sym, ap, subst, Some, None, true, false, Contains, lit<, arith, inl, inr}
use Rattle.std.proofs.lemmas.List.Elements.{Contains-append_left, Contains-append_right}
use Rattle.std.specs.Prelude.{Option, IfSome, ◌⊎◌}
use Rattle.psr_base.specs.Count.{Rose}
use Rattle.psr_base.specs.Told.{Told, InputsSeen}
use Rattle.psr_base.specs.Made.{FilesSeen}
use Rattle.psr_base.specs.Written.{SinkSeen, WroteAll, WroteFront}
use Rattle.ring_ends.specs.declared.finished.Finished.{Finished}
use Rattle.search_words.specs.Settings.{SettingsSeen, SaySearch}
use Rattle.stream_model.specs.Walk as walk
use Rattle.stream_model.specs.Walk.{FileStream, walk_stop}
use Rattle.transfer_text.specs.Searched.{ObservedTransfer, candidate_total, searched_text}
use Rattle.transfer_text.specs.Found.{HasFew}
use Rattle.disk_feeder.specs.declared.answers.FeedEnd.{FeedEnd}
use Rattle.disk_feeder.specs.declared.answers.FeedEnd.TheVariants as feed
use Rattle.disk_feeder.specs.Plan.{AreTold}
use Rattle.dada_recorder.specs.declared.answers.RecordEnd.{RecordEnd}
use Rattle.dada_recorder.specs.declared.answers.RecordEnd.TheVariants as recorder
use Rattle.run_outcome.specs.declared.stop.Stop.{Stop}
use Rattle.run_outcome.specs.declared.stop.Stop.TheVariants.{TooMany, SinkFault, FileFault}
use Rattle.run_outcome.specs.Texts.{status_of}
use Rattle.run_outcome.specs.Conversions.{stop_of_feed}
use Rattle.run_outcome.specs.Runs.{Searching, stream_for, observed_transfers, CanBegin, HasCandidates}
use Rattle.run_outcome.specs.Outcomes.{AllCleared, LeavesFiles, TellsNotes}
use Rattle.run_outcome.specs.Ends.{EndsRun, EndsShort, short_statuses, EndAtStop, EndAfterWhole, IsSaid, RunsThrough, IsLate, WordsSayOnce, end_status}
use Rattle.psr_search.specs.Outcome.{ForSearch, HasText, WritesText, ClearsBlocks, Outcome}
use Rattle.psr_search.specs.Ends.{Ends, EndsSearch, EndsFed}

abbrev statuses : List ℕ
statuses = 0 ∷ 2 ∷ 3 ∷ 4 ∷ 5 ∷ 6 ∷ 7 ∷ 8 ∷ 9 ∷ 10 ∷ 11 ∷ []

-- ---- parts of the outcome

module _ (words : List (List ℕ)) where
  -- what was told of the files that the words name
  pub for_settings : (told : Told) → WordsSayOnce → (s0 : SettingsSeen) → SaySearch words s0 →
      (P : SettingsSeen → FileStream → Type 0) →
      ((files : List (List ℕ)) → AreTold told s0.names files → P s0 (stream_for s0 files)) → ForSearch words told P
  for_settings told once s0 says0 P holds s files says are =
      subst (λ (t : SettingsSeen). (files : List (List ℕ)) → AreTold told t.names files → P t (stream_for t files))
      (once Searching words s0 s says0 says) holds files are

  none_written : (told : Told) (n : ℕ) (before after : SinkSeen) → n ≢ 0 → n ≢ 10 → n ≢ 11 → after ≡ before →
      WritesText words told before after n
  none_written told n before after zeroth tenth last same = record {
    text = λ e. absurd (zeroth e);
    text_too = λ e. absurd (last e);
    front = λ e. absurd (tenth e);
    failed = λ e. absurd (tenth e);
    quiet = λ e. ap (λ (s : SinkSeen). s.faults) same;
    untouched = λ e f g. same;
  }

module _ (words : List (List ℕ)) (inputs : InputsSeen) (is_calm : Type 0) (files_before files_after : FilesSeen) where
  -- ---- before all data were sealed

  pub at_short : (blocks : Option Finished) (recorded : Option RecordEnd) (stop : Stop) (before after : SinkSeen) →
      EndsShort Searching words inputs is_calm blocks recorded files_before files_after stop →
      ClearsBlocks words blocks recorded → after ≡ before →
      Ends words inputs is_calm files_before files_after before after (Some stop) blocks recorded
  at_short blocks recorded stop before after e cleared same =
      let least = e.least in
      let most = e.most in
      record {
        known = Contains-append_right (0 ∷ []) (short_statuses ++ 9 ∷ 10 ∷ 11 ∷ []) (status_of stop)
            (Contains-append_left short_statuses (9 ∷ 10 ∷ 11 ∷ []) (status_of stop) e.known);
        written = none_written words inputs.told (status_of stop) before after (λ is. omega (arith, is, least))
            (λ is. omega (arith, is, most)) (λ is. omega (arith, is, most)) same;
        run = e.run;
        too_many = λ is. absurd (omega (arith, is, most));
        cleared = cleared;
        said = e.said;
      }

  -- with no data ring
  pub at_once : (stop : Stop) (out : SinkSeen) →
      EndsShort Searching words inputs is_calm None None files_before files_after stop →
      Ends words inputs is_calm files_before files_after out out (Some stop) None None
  at_once stop out e = at_short None None stop out out e
      (record { shards = λ b is. absurd cc; recorder = λ fine b is. absurd cc }) refl

  -- ---- after the session

  module _ (once : WordsSayOnce) (s0 : SettingsSeen) (blocks : Finished) (end : FeedEnd) (recorded : Option RecordEnd)
      (through : RunsThrough Searching words s0 inputs is_calm blocks end recorded files_before files_after)
      (shards : AllCleared blocks 0 s0.search.shards)
      (recorder_cleared : s0.recording ≡ true → recorded ≢ Some recorder.FileFault →
      AllCleared blocks s0.search.shards 1) where
    clears : ClearsBlocks words (Some blocks) recorded
    clears = record {
      shards = λ b e s says.
          let one : b ≡ blocks = cc in
          let same : s ≡ s0 = sym (once Searching words s0 s through.says says) in rw (one, same) shards;
      recorder = λ fine b e s says.
          let one : b ≡ blocks = cc in
          let same : s ≡ s0 = sym (once Searching words s0 s through.says says) in
          rw (one, same) (λ on. recorder_cleared on fine);
    }

    -- ---- with all data

    module _ (law : EndAfterWhole is_calm) (whole : stop_of_feed end ≡ None) (transfers : List ObservedTransfer)
        (known : (files : List (List ℕ)) → AreTold inputs.told s0.names files →
        transfers ≡ observed_transfers (stream_for s0 files)) where
      late : (n : ℕ) → IsLate recorded n →
          EndsRun Searching words inputs is_calm (Some blocks) recorded files_before files_after n
          × ForSearch words inputs.told (λ s w. CanBegin Searching s w × (walk_stop w ≡ walk.Whole))
      late n at = law Searching words s0 inputs blocks end recorded files_before files_after n through whole at

      -- how many candidates there are
      candidates : (n : ℕ) → IsLate recorded n → (P : SettingsSeen → ℕ → Type 0) →
          P s0 (candidate_total s0.search transfers) →
          ForSearch words inputs.told (λ s w. HasCandidates s w (P s))
      candidates n at P p =
          for_settings words inputs.told once s0 through.says (λ s w. HasCandidates s w (P s)) (λ files are.
          let b = (late n at).1 s0 files through.says are in
          record {
            begins = b.0;
            whole = b.1;
            total = subst (λ ts. P s0 (candidate_total s0.search ts)) (known files are) p;
          })

      text_of : (n : ℕ) → IsLate recorded n → (P : List ℕ → Type 0) → HasFew s0.search transfers →
          P (searched_text s0.search transfers) → ForSearch words inputs.told (HasText P)
      text_of n at P few p = for_settings words inputs.told once s0 through.says (HasText P) (λ files are. (
        candidates n at (λ s total. total ≤ s.search.max_candidates) few s0 files through.says are,
        subst (λ ts. P (searched_text s0.search ts)) (known files are) p,
      ))

      is_late : (n : ℕ) → Contains (0 ∷ 9 ∷ 10 ∷ 11 ∷ []) n → (n ≡ 0 → recorded ≢ Some recorder.FileFault) →
          (n ≡ 11 → recorded ≡ Some recorder.FileFault) → IsLate recorded n
      is_late n known all failed = record { known = known; all = all; failed = failed }

      -- what each of their statuses says
      late_ends : (before after : SinkSeen) (stop : Option Stop) → IsLate recorded (end_status stop) →
          Contains statuses (end_status stop) → WritesText words inputs.told before after (end_status stop) →
          (end_status stop ≡ 9 → ForSearch words inputs.told (λ s w.
          HasCandidates s w (λ total. s.search.max_candidates < total))) →
          IsSaid Searching words inputs.told stop →
          Ends words inputs is_calm files_before files_after before after stop (Some blocks) recorded
      late_ends before after stop at known written many said = record {
        known = known;
        written = written;
        run = (late (end_status stop) at).0;
        too_many = many;
        cleared = clears;
        said = said;
      }

      -- the whole text, or its front, or no text
      all_written : (before after : SinkSeen) (n : ℕ) → IsLate recorded n → HasFew s0.search transfers →
          WroteAll (searched_text s0.search transfers) before after → n ≢ 10 → (n ≢ 0 → n ≢ 11 → ⊥) →
          WritesText words inputs.told before after n
      all_written before after n at few wrote tenth ends = record {
        text = λ e. text_of n at (λ text. WroteAll text before after) few wrote;
        text_too = λ e. text_of n at (λ text. WroteAll text before after) few wrote;
        front = λ e. absurd (tenth e);
        failed = λ e. absurd (tenth e);
        quiet = λ e. wrote.faults;
        untouched = λ e f g. absurd (ends e g);
      }

      pub at_text : (before after : SinkSeen) (stop : Option Stop) →
          EndsSearch s0.search transfers recorded before after stop →
          Ends words inputs is_calm files_before files_after before after stop (Some blocks) recorded
      at_text before after None (few, wrote, none) =
          let at = is_late 0 (0, lit< tt, refl) (λ e. none) (λ e. absurd (omega (arith, e))) in
          late_ends before after None at (0, lit< tt, refl)
          (all_written before after 0 at few wrote (λ e. omega (arith, e)) (λ e f. e refl))
          (λ e. absurd (omega (arith, e))) tt
      at_text before after (Some FileFault) (few, wrote, failed) =
          let at = is_late 11 (3, lit< tt, refl) (λ e. absurd (omega (arith, e))) (λ e. failed) in
          late_ends before after (Some FileFault) at (10, lit< tt, refl)
          (all_written before after 11 at few wrote (λ e. omega (arith, e)) (λ e f. f refl))
          (λ e. absurd (omega (arith, e))) (tt, tt)
      at_text before after (Some SinkFault) (few, wrote) =
          let at =
          is_late 10 (2, lit< tt, refl) (λ e. absurd (omega (arith, e))) (λ e. absurd (omega (arith, e))) in
          late_ends before after (Some SinkFault) at (9, lit< tt, refl) (record {
            text = λ e. absurd (omega (arith, e));
            text_too = λ e. absurd (omega (arith, e));
            front = λ e. text_of 10 at (λ text. WroteFront text before after) few wrote;
            failed = λ e. wrote.rose;
            quiet = λ e. absurd (e refl);
            untouched = λ e f. absurd (f refl);
          }) (λ e. absurd (omega (arith, e))) (tt, tt)
      at_text before after (Some (TooMany n limit)) (total, most, many, same) =
          let at =
          is_late 9 (1, lit< tt, refl) (λ e. absurd (omega (arith, e))) (λ e. absurd (omega (arith, e))) in
          late_ends before after (Some (TooMany n limit)) at (8, lit< tt, refl)
          (none_written words inputs.told 9 before after (λ e. omega (arith, e)) (λ e. omega (arith, e))
          (λ e. omega (arith, e)) same)
          (λ e. candidates 9 at (λ s t. s.search.max_candidates < t) (omega (arith, total, most, many))) (
            tt,
            candidates 9 at (λ s t. (t ≡ n) × (limit ≡ s.search.max_candidates) × (limit < n)) (total, most, many),
          )
      at_text before after stop e = absurd e

    -- all data were sealed where the feeder has no stop
    whole_is : (e : FeedEnd) → stop_of_feed e ≡ None → (bytes : ℕ) × (e ≡ feed.Whole bytes)
    whole_is (feed.Whole bytes) is = (bytes, refl)
    whole_is e is = absurd cc

    -- what is known once all data were sealed
    pub record IsFound (before after : SinkSeen) (stop : Option Stop) : Type 0 where
      pub transfers : List ObservedTransfer
      pub known : (files : List (List ℕ)) → AreTold inputs.told s0.names files →
          transfers ≡ observed_transfers (stream_for s0 files)
      pub ended : EndsFed (stop_of_feed end) s0.search transfers recorded before after stop

    pub after_session : EndAtStop is_calm → EndAfterWhole is_calm → (before after : SinkSeen) (stop : Option Stop) →
        IfSome (stop_of_feed end) (λ fed. (stop ≡ Some fed) × (after ≡ before)) →
        ((bytes : ℕ) → end ≡ feed.Whole bytes → IsFound before after stop) → (fed : Option Stop) →
        stop_of_feed end ≡ fed →
        Ends words inputs is_calm files_before files_after before after stop (Some blocks) recorded
    after_session stops wholes before after stop stopped found (Some fed) is =
        let e =
        stops Searching words s0 inputs blocks end recorded files_before files_after fed through is in
        let two = rw is at stopped in rw two.0 (at_short (Some blocks) recorded fed before after e clears two.1)
    after_session stops wholes before after stop stopped found None is =
        let w = whole_is end is in
        let f = found w.0 w.1 in
        at_text wholes is f.transfers f.known before after stop (rw is at f.ended)

-- ---- with the notes

pub outcome : (words : List (List ℕ)) (inputs : InputsSeen) (is_calm : Type 0) (files_before files_after : FilesSeen)
    (out_before out_after notes_before notes_after : SinkSeen) (stop : Option Stop) (blocks : Option Finished)
    (recorded : Option RecordEnd) (status : ℕ) →
    Ends words inputs is_calm files_before files_after out_before out_after stop blocks recorded →
    status ≡ end_status stop →
    TellsNotes Searching words inputs.told notes_before notes_after status →
    Outcome words inputs is_calm files_before files_after out_before out_after notes_before notes_after
    (record { status = status; blocks = blocks; recorded = recorded })
outcome words inputs is_calm files_before files_after out_before out_after notes_before notes_after stop blocks recorded
    status e is noted =
    rw is (record {
      known = e.known;
      written = e.written;
      judged = e.run.judged;
      read = e.run.read;
      stopped = e.run.ends.stopped;
      too_many = e.too_many;
      sealed = e.run.ends.sealed;
      cleared = e.cleared;
      recorded = e.run.ends.recorded;
      noted = rw is at noted;
    })

-- ---- what is left of the files

module _ (words : List (List ℕ)) {F : Type 0} (files_open : F → Type 0) (seen : F → FilesSeen) (before after : F) where
  -- they stand
  pub stand : (blocks : Option Finished) (recorded : Option RecordEnd) (status : ℕ) → after ≡ before →
      LeavesFiles Searching words files_open seen before after blocks recorded status
  stand blocks recorded status same = record {
    before_session = λ none. same;
    unrecorded = λ s says not. same;
    closed = λ quiet shut. rw same shut;
    shut = λ fine shut. rw same shut;
  }

  pub leaves_closed : WordsSayOnce → (s0 : SettingsSeen) (blocks : Finished) (recorded : Option RecordEnd)
      (status : ℕ) → SaySearch words s0 → (s0.recording ≡ false → after ≡ before) →
      (recorded ≡ Some recorder.FileFault → Rose (seen before).faults (seen after).faults) →
      (recorded ≢ Some recorder.FileFault → ¬ files_open before → ¬ files_open after) →
      (status ≡ 0 → recorded ≢ Some recorder.FileFault) →
      LeavesFiles Searching words files_open seen before after (Some blocks) recorded status
  leaves_closed once s0 blocks recorded status says0 stands rose closed whole = record {
    before_session = λ none. absurd cc;
    unrecorded = λ s says not.
        let same = once Searching words s s0 says says0 in stands (rw same at not);
    closed = λ quiet shut. closed (fine quiet) shut;
    shut = closed;
  }
    where
      fine : (status ≡ 0) ⊎ ¬ Rose (seen before).faults (seen after).faults → recorded ≢ Some recorder.FileFault
      fine (inl zeroth) = whole zeroth
      fine (inr never) = λ failed. never (rose failed)
