-- How a recording ends: before all data were sealed, or at their end.
use Rattle.std.proofs.Common.{◌≡◌, ◌≢◌, ℕ, List, [], ◌∷◌, ◌++◌, refl, sym, ap, ◌∙◌, Some, None, true, Contains, lit<, arith, inl, inr}
use Rattle.std.proofs.lemmas.List.Elements.{Contains-append_left, Contains-append_right}
use Rattle.std.proofs.lemmas.Bool.{true≢false}
use Rattle.std.specs.Prelude.{Option, ◌⊎◌}
use Rattle.psr_base.specs.Count.{Rose}
use Rattle.psr_base.specs.Told.{InputsSeen}
use Rattle.psr_base.specs.Made.{FilesSeen}
use Rattle.psr_base.specs.Written.{SinkSeen}
use Rattle.ring_ends.specs.declared.finished.Finished.{Finished}
use Rattle.search_words.specs.Settings.{RunSeen, SayRecord}
use Rattle.stream_model.specs.Walk as walk
use Rattle.stream_model.specs.Walk.{walk_stop}
use Rattle.disk_feeder.specs.declared.answers.FeedEnd.{FeedEnd}
use Rattle.dada_recorder.specs.declared.answers.RecordEnd.{RecordEnd}
use Rattle.dada_recorder.specs.declared.answers.RecordEnd.TheVariants as recorder
use Rattle.run_outcome.specs.declared.stop.Stop.{Stop}
use Rattle.run_outcome.specs.declared.stop.Stop.TheVariants.{FileFault}
use Rattle.run_outcome.specs.Texts.{status_of}
use Rattle.run_outcome.specs.Conversions.{stop_of_feed, stop_of_recorder}
use Rattle.run_outcome.specs.Runs.{RecordingAlone, CanBegin}
use Rattle.run_outcome.specs.Outcomes.{AllCleared, LeavesFiles, TellsNotes}
use Rattle.run_outcome.specs.Ends.{EndsRun, EndsShort, short_statuses, EndAtStop, EndAfterWhole, IsSaid, RunsThrough, IsLate, end_status}
use Rattle.psr_record.specs.Outcome.{ForRecord, RecordsData, ClearsBlocks, Outcome}
use Rattle.psr_record.specs.Ends.{stop_of_session, Ends}

abbrev statuses : List ℕ
statuses = 0 ∷ 2 ∷ 3 ∷ 4 ∷ 5 ∷ 6 ∷ 7 ∷ 8 ∷ 11 ∷ []

-- the settings of a recording ask for it
pub records : (words : List (List ℕ)) (s : RunSeen) → SayRecord words s → s.recording ≡ true
records words s says = ap (λ (t : RunSeen). t.recording) says.values

module _ (words : List (List ℕ)) (inputs : InputsSeen) (is_calm : Type 0) (files_before files_after : FilesSeen) where
  -- ---- before all data were sealed

  pub at_short : (blocks : Option Finished) (recorded : Option RecordEnd) (stop : Stop) →
      EndsShort RecordingAlone words inputs is_calm blocks recorded files_before files_after stop →
      ClearsBlocks blocks recorded →
      Ends words inputs is_calm files_before files_after (Some stop) blocks recorded
  at_short blocks recorded stop e cleared =
      let least = e.least in
      let most = e.most in
      record {
        known = Contains-append_right (0 ∷ []) (short_statuses ++ 11 ∷ []) (status_of stop)
            (Contains-append_left short_statuses (11 ∷ []) (status_of stop) e.known);
        made = record { all = λ is. absurd (omega (arith, is, least)); front = λ is. absurd (omega (arith, is, most)) };
        run = e.run;
        cleared = cleared;
        said = e.said;
      }

  -- with no data ring
  pub at_once : (stop : Stop) → EndsShort RecordingAlone words inputs is_calm None None files_before files_after stop →
      Ends words inputs is_calm files_before files_after (Some stop) None None
  at_once stop e = at_short None None stop e (λ fine b is. absurd cc)

  -- ---- with all data

  module _ (s0 : RunSeen) (blocks : Finished) (end : FeedEnd) (recorded : Option RecordEnd)
      (through : RunsThrough RecordingAlone words s0 inputs is_calm blocks end recorded files_before files_after)
      (cleared : recorded ≢ Some recorder.FileFault → AllCleared blocks 0 1) where
    clears : ClearsBlocks (Some blocks) recorded
    clears fine b is = let same : b ≡ blocks = cc in rw same (cleared fine)

    module _ (law : EndAfterWhole is_calm) (whole : stop_of_feed end ≡ None) where
      late : (n : ℕ) → IsLate recorded n →
          EndsRun RecordingAlone words inputs is_calm (Some blocks) recorded files_before files_after n
          × ForRecord words inputs.told (λ s w. CanBegin RecordingAlone s w × (walk_stop w ≡ walk.Whole))
      late n at = law RecordingAlone words s0 inputs blocks end recorded files_before files_after n through whole at

      data_at : (n : ℕ) → IsLate recorded n → RecordsData words inputs.told files_before files_after n
      data_at n at = record {
        all = λ e s files says are.
            let b = (late n at).1 s files says are in (
              record { begins = b.0; whole = b.1 },
              ((late n at).0.ends.recorded.all e s files says are (records words s says)).1,
            );
        front = λ e s files says are.
            let b = (late n at).1 s files says are in
            (record { begins = b.0; whole = b.1 }, (late n at).0.ends.recorded.front e s files says are);
      }

      -- what each of their statuses says
      late_ends : (stop : Option Stop) → IsLate recorded (end_status stop) → Contains statuses (end_status stop) →
          IsSaid RecordingAlone words inputs.told stop →
          Ends words inputs is_calm files_before files_after stop (Some blocks) recorded
      late_ends stop at known said = record {
        known = known;
        made = data_at (end_status stop) at;
        run = (late (end_status stop) at).0;
        cleared = clears;
        said = said;
      }

      at_files : (answer : Option RecordEnd) → recorded ≡ answer →
          Ends words inputs is_calm files_before files_after (stop_of_recorder answer) (Some blocks) recorded
      at_files (Some recorder.FileFault) is =
          let at : IsLate recorded 11 = record {
            known = (3, lit< tt, refl);
            all = λ e. absurd (omega (arith, e));
            failed = λ e. is;
          } in
          late_ends (Some FileFault) at (8, lit< tt, refl) (tt, tt)
      at_files answer is =
          let at : IsLate recorded 0 = record {
            known = (0, lit< tt, refl);
            all = λ e fault. absurd cc;
            failed = λ e. absurd (omega (arith, e));
          } in
          late_ends None at (0, lit< tt, refl) tt

    by_feed : EndAtStop is_calm → EndAfterWhole is_calm → (at : Option Stop) → stop_of_feed end ≡ at →
        Ends words inputs is_calm files_before files_after (stop_of_session at recorded) (Some blocks) recorded
    by_feed stops wholes (Some stop) is = at_short (Some blocks) recorded stop
        (stops RecordingAlone words s0 inputs blocks end recorded files_before files_after stop through is) clears
    by_feed stops wholes None is = at_files wholes is recorded refl

    pub after_session : EndAtStop is_calm → EndAfterWhole is_calm → (stop : Option Stop) →
        stop ≡ stop_of_session (stop_of_feed end) recorded →
        Ends words inputs is_calm files_before files_after stop (Some blocks) recorded
    after_session stops wholes stop is = rw is (by_feed stops wholes (stop_of_feed end) refl)

-- ---- with the notes

pub outcome : (words : List (List ℕ)) (inputs : InputsSeen) (is_calm : Type 0) (files_before files_after : FilesSeen)
    (notes_before notes_after : SinkSeen) (stop : Option Stop) (blocks : Option Finished) (recorded : Option RecordEnd)
    (status : ℕ) →
    Ends words inputs is_calm files_before files_after stop blocks recorded → status ≡ end_status stop →
    TellsNotes RecordingAlone words inputs.told notes_before notes_after status →
    Outcome words inputs is_calm files_before files_after notes_before notes_after
    (record { status = status; blocks = blocks; recorded = recorded })
outcome words inputs is_calm files_before files_after notes_before notes_after stop blocks recorded status e is noted =
    rw is (record {
      known = e.known;
      made = e.made;
      judged = e.run.judged;
      read = e.run.read;
      stopped = e.run.ends.stopped;
      sealed = e.run.ends.sealed;
      cleared = e.cleared;
      recorded = e.run.ends.recorded;
      noted = rw is at noted;
    })

-- ---- what is left of the files

module _ (words : List (List ℕ)) {F : Type 0} (files_open : F → Type 0) (seen : F → FilesSeen) (before after : F) where
  -- they stand
  pub stand : (blocks : Option Finished) (recorded : Option RecordEnd) (status : ℕ) → after ≡ before →
      LeavesFiles RecordingAlone words files_open seen before after blocks recorded status
  stand blocks recorded status same = record {
    before_session = λ none. same;
    unrecorded = λ s says not. same;
    closed = λ quiet shut. rw same shut;
    shut = λ fine shut. rw same shut;
  }

  -- no call on them failed where nothing stopped the session
  none_failed : (fed : Option Stop) (recorded : Option RecordEnd) → stop_of_session fed recorded ≡ None →
      recorded ≢ Some recorder.FileFault
  none_failed (Some stop) recorded none failed = absurd cc
  none_failed None recorded none failed =
      let some : stop_of_recorder recorded ≡ Some FileFault = ap stop_of_recorder failed in
      absurd cc

  pub leaves_closed : (blocks : Finished) (recorded : Option RecordEnd) (fed stop : Option Stop) (status : ℕ) →
      stop ≡ stop_of_session fed recorded → (status ≡ 0 → stop ≡ None) →
      (recorded ≡ Some recorder.FileFault → Rose (seen before).faults (seen after).faults) →
      (recorded ≢ Some recorder.FileFault → ¬ files_open before → ¬ files_open after) →
      LeavesFiles RecordingAlone words files_open seen before after (Some blocks) recorded status
  leaves_closed blocks recorded fed stop status is whole rose closed = record {
    before_session = λ none. absurd cc;
    unrecorded = λ s says not. absurd (true≢false (sym (records words s says) ∙ not));
    closed = λ quiet shut. closed (fine quiet) shut;
    shut = closed;
  }
    where
      fine : (status ≡ 0) ⊎ ¬ Rose (seen before).faults (seen after).faults → recorded ≢ Some recorder.FileFault
      fine (inl zeroth) = none_failed fed recorded (sym is ∙ whole zeroth)
      fine (inr never) = λ failed. never (rose failed)
