-- What the exit status says after a session.
use Rattle.std.proofs.Common.{◌≡◌, ◌≢◌, ℕ, zero, suc, ◌+◌, ◌<◌, List, [], ◌∷◌, refl, inr, sym, ap, ◌∙◌, subst, Some, None, Contains, lit<, arith}
use Rattle.std.proofs.lemmas.List.Elements.{Contains-append_left}
use Rattle.std.specs.Prelude.{Option, IsSome, length}
use Rattle.psr_base.specs.Told.{Told}
use Rattle.psr_base.specs.Made.{NamedBytes, FilesSeen}
use Rattle.ring_blocks.specs.declared.Entry.{Entry}
use Rattle.ring_ends.specs.declared.finished.Finished.{Finished}
use Rattle.ring_ends.specs.Ended.{sealed_at_end}
use Rattle.stream_model.specs.Walk as walk
use Rattle.stream_model.specs.Walk.{FileStream, WalkStop, walk_stop, walk_stream}
use Rattle.disk_feeder.specs.declared.answers.FeedEnd.{FeedEnd}
use Rattle.disk_feeder.specs.declared.answers.FeedEnd.TheVariants as feed
use Rattle.disk_feeder.specs.declared.answers.HeaderCause.{HeaderCause}
use Rattle.disk_feeder.specs.Ends.{end_of}
use Rattle.disk_feeder.specs.Feeding.{IsWalkEnd}
use Rattle.disk_feeder.specs.Reading.{StopsAtFile}
use Rattle.dada_recorder.specs.declared.answers.RecordEnd.{RecordEnd}
use Rattle.dada_recorder.specs.declared.answers.RecordEnd.TheVariants as recorder
use Rattle.run_outcome.specs.declared.stop.Stop.{Stop}
use Rattle.run_outcome.specs.declared.stop.Stop.TheVariants.{Header, Gap, TooLong}
use Rattle.run_outcome.specs.Texts.{status_of}
use Rattle.run_outcome.specs.Conversions.{stop_of_feed}
use Rattle.run_outcome.specs.Runs.{Task, SettingsFor, Says, ForFiles, ForFirsts, ForFilesTo, CanBegin, IsWalkStop, StopNames, StopTells, StopsThere, StopsAt, PassesTo, SaysOfFiles, stop_of_walk, stream_for}
use Rattle.run_outcome.specs.Outcomes.{StopsAtFiles, BreaksStream, SealsStream, RecordsFiles, MadeAll, MadeFront, MadeBy, CanEndAt, files_of_stream, files_of_data}
use Rattle.run_outcome.specs.Laws.{WholeRunsRecordData}
use Rattle.run_outcome.specs.Ends.{IsRunFed, EndsAsFed, IsRecorded, IsLate, EndsAt}
use Rattle.run_outcome.proofs.Statuses.{apart}
use Rattle.run_outcome.proofs.Before.{none_stopped}
use Rattle.run_outcome.proofs.Needs.{told_at}

-- what an option has
one_list : (a b : Finished) → Some a ≡ Some b → a ≡ b
one_list a b e = cc

one_stop : (a b : Stop) → Some a ≡ Some b → a ≡ b
one_stop a b e = cc

-- ---- the walk

-- the stop at the end of a walk
stop_at_end : (bytes limit : ℕ) (stop : WalkStop) →
    stop_of_feed (end_of bytes limit stop) ≡ stop_of_walk limit stop
stop_at_end bytes limit walk.Whole = refl
stop_at_end bytes limit stop = refl

-- what stops the walk stops the run
walk_stopped : (w : FileStream) (size : ℕ) (blocks : List Entry) (end : FeedEnd) (stop : Option Stop) →
    IsWalkEnd w size blocks end → stop_of_feed end ≡ stop →
    stop_of_walk w.max_bytes (walk_stop w) ≡ stop
walk_stopped w size blocks end stop e is =
    sym (stop_at_end _ w.max_bytes (walk_stop w)) ∙ ap stop_of_feed (sym e.is) ∙ is

-- a walk without a stop is whole
whole_walk : (limit : ℕ) (stop : WalkStop) → stop_of_walk limit stop ≡ None → stop ≡ walk.Whole
whole_walk limit walk.Whole is = refl
whole_walk limit stop is = absurd cc

-- ---- the statuses

not_cut : (n : ℕ) → Contains (3 ∷ 6 ∷ 7 ∷ 8 ∷ []) n → n ≢ 0
not_cut n (zero, below, is) e = omega (arith, is, e)
not_cut n (suc zero, below, is) e = omega (arith, is, e)
not_cut n (suc (suc zero), below, is) e = omega (arith, is, e)
not_cut n (suc (suc (suc zero)), below, is) e = omega (arith, is, e)
not_cut n (suc (suc (suc (suc k))), below, is) e = omega (arith, below)

not_failed : (n : ℕ) → Contains (3 ∷ 6 ∷ 7 ∷ 8 ∷ 9 ∷ 10 ∷ 11 ∷ []) n → n ≢ 0
not_failed n (zero, below, is) e = omega (arith, is, e)
not_failed n (suc zero, below, is) e = omega (arith, is, e)
not_failed n (suc (suc zero), below, is) e = omega (arith, is, e)
not_failed n (suc (suc (suc zero)), below, is) e = omega (arith, is, e)
not_failed n (suc (suc (suc (suc zero))), below, is) e = omega (arith, is, e)
not_failed n (suc (suc (suc (suc (suc zero)))), below, is) e = omega (arith, is, e)
not_failed n (suc (suc (suc (suc (suc (suc zero))))), below, is) e = omega (arith, is, e)
not_failed n (suc (suc (suc (suc (suc (suc (suc k)))))), below, is) e = omega (arith, below)

not_last : (n : ℕ) → Contains (0 ∷ 9 ∷ 10 ∷ 11 ∷ []) n → n ≢ 11 → Contains (0 ∷ 9 ∷ 10 ∷ []) n
not_last n (zero, below, is) other = (0, lit< tt, is)
not_last n (suc zero, below, is) other = (1, lit< tt, is)
not_last n (suc (suc zero), below, is) other = (2, lit< tt, is)
not_last n (suc (suc (suc zero)), below, is) other = absurd (other (sym is))
not_last n (suc (suc (suc (suc k))), below, is) other = absurd (omega (arith, below))

not_first : (n : ℕ) → Contains (0 ∷ 9 ∷ 10 ∷ 11 ∷ []) n → n ≢ 0 →
    Contains (3 ∷ 6 ∷ 7 ∷ 8 ∷ 9 ∷ 10 ∷ 11 ∷ []) n
not_first n (zero, below, is) other = absurd (other (sym is))
not_first n (suc zero, below, is) other = (4, lit< tt, is)
not_first n (suc (suc zero), below, is) other = (5, lit< tt, is)
not_first n (suc (suc (suc zero)), below, is) other = (6, lit< tt, is)
not_first n (suc (suc (suc (suc k))), below, is) other = absurd (omega (arith, below))

-- ---- the files

module _ (task : Task) (words : List (List ℕ)) (told : Told) (blocks : Finished)
    (answer : Option RecordEnd) (before after : FilesSeen) where
  -- a run whose recorder ended has one
  there_is : (a : Option RecordEnd) → IsSome a → (end : RecordEnd) × (a ≡ Some end)
  there_is None some = absurd cc
  there_is (Some end) some = (end, refl)

  -- at 0 it ended with all data
  all_made : (end : RecordEnd) (files : List NamedBytes) (n : ℕ) → n ≡ 0 → CanEndAt end n →
      MadeBy end files before after →
      (end ≡ recorder.Whole (length files)) × MadeAll files before after
  all_made (recorder.Whole count) files n zeroth can made = (ap (λ k. recorder.Whole k) made.0, made.1)
  all_made (recorder.Cut count) files n zeroth can made = absurd (not_cut n can zeroth)
  all_made recorder.FileFault files n zeroth can made = absurd (not_failed n can zeroth)
  all_made end files n zeroth can made = absurd can

  -- the files of all data are those of the stream, where more than a feeder's stop is to say
  recorded_at : (end : FeedEnd) (n : ℕ) → IsRecorded task words told blocks end answer before after →
      ((e : RecordEnd) → answer ≡ Some e → CanEndAt e n) → (n ≡ 11 → answer ≡ Some recorder.FileFault) →
      (Contains (0 ∷ 9 ∷ 10 ∷ 11 ∷ []) n → ForFiles task words told (λ s w.
      files_of_stream w s.file_size (sealed_at_end blocks) ≡ files_of_data w s.file_size)) →
      RecordsFiles task words told (Some blocks) answer before after n
  recorded_at end n r can failed same = record {
    before_session = λ e. absurd cc;
    unrecorded = λ s says off.
        let two = r.unrecorded s says off in (two.0, λ e. no_end (sym two.1 ∙ failed e), two.1);
    ended = λ some. r.ended;
    shown = can;
    all = λ zeroth s files says are on.
        let it = there_is answer (r.ended s says on) in
        let Made : List NamedBytes → Type 0 = λ made. MadeBy it.0 made before after in
        let w = stream_for s files in
        let whole = all_made it.0 (files_of_data w s.file_size) n zeroth (can it.0 it.1)
        (subst Made (same (0, lit< tt, sym zeroth) s files says are)
        (r.made it.0 it.1 s files says (told_at told s.names files are))) in
        (it.1 ∙ ap (λ e. Some e) whole.0, whole.1);
    whole = λ count is s files says are. subst
        (λ (made : List NamedBytes). MadeBy (recorder.Whole count) made before after)
        (same (Contains-append_left (0 ∷ 9 ∷ 10 ∷ []) (11 ∷ []) n (can (recorder.Whole count) is)) s files says are)
        (r.made (recorder.Whole count) is s files says (told_at told s.names files are));
    front = λ e s files says are. subst
        (λ (made : List NamedBytes). MadeFront made before after) (same (3, lit< tt, sym e) s files says are)
        (r.made recorder.FileFault (failed e) s files says (told_at told s.names files are));
    stream = λ b e it is. subst
        (λ (x : Finished). ForFirsts task words told (λ s w.
        MadeBy it (files_of_stream w s.file_size (sealed_at_end x)) before after))
        (one_list blocks b e) (r.made it is);
    failed = failed;
    rose = r.rose;
    quiet = r.quiet;
    count = r.count;
  }
    where
      no_end : None ≡ Some recorder.FileFault → ⊥
      no_end e = cc

  -- where all files are told, so are those that judge an end
  all_told : (file : ℕ) (end : FeedEnd) →
      ForFilesTo (file + 1) task words told (λ s w. IsWalkEnd w s.size (sealed_at_end blocks) end) →
      ForFiles task words told (λ s w. IsWalkEnd w s.size (sealed_at_end blocks) end)
  all_told file end walked s files says are = walked s files says (told_at told s.names files are)

  -- the blocks of a walk that went to its stop
  sealed_at : (n : ℕ) → Contains (0 ∷ 3 ∷ 6 ∷ 7 ∷ 8 ∷ 9 ∷ 10 ∷ 11 ∷ []) n → (end : FeedEnd) →
      IsRunFed task words told blocks end → n ≢ 6 →
      (Contains (0 ∷ 9 ∷ 10 ∷ 11 ∷ []) n → (s : SettingsFor task) → Says task words s →
      PassesTo (length s.names) task words told) →
      ForFiles task words told (λ s w. IsWalkEnd w s.size (sealed_at_end blocks) end) →
      SealsStream task words told (Some blocks) n
  sealed_at n known end f six late walked = record {
    none = λ e. absurd cc;
    some = λ e. known;
    begun = λ some. f.begun;
    passed = λ some. late;
    sealed = λ b e other. subst
        (λ (x : Finished). ForFiles task words told (λ s w.
        CanBegin task s w × (sealed_at_end x ≡ walk_stream s.size w)))
        (one_list blocks b e)
        (λ s files says are.
        (f.begun.1 s files says (told_at told s.names files are), (walked s files says are).stream));
    broken = λ b e is. absurd (six is);
  }

  -- those of a walk that the inputs broke off at some place
  sealed_broken : IsRunFed task words told blocks feed.ReadFault →
      SealsStream task words told (Some blocks) 6
  sealed_broken f = record {
    none = λ e. absurd cc;
    some = λ e. (2, lit< tt, refl);
    begun = λ some. f.begun;
    passed = λ some late. absurd (apart 6 6 late (lit< tt) (lit< tt) refl);
    sealed = λ b e other. absurd (other refl);
    broken = λ b e is. subst (λ (x : Finished). BreaksStream task words told x) (one_list blocks b e) (record {
      at = f.at;
      there = f.there (λ bytes same. cc);
      passed = f.passed;
      front = f.walked;
    });
  }

  -- the status of a feeder's stop is none of those
  not_late : (n : ℕ) → Contains (3 ∷ 6 ∷ 7 ∷ 8 ∷ []) n → ¬ Contains (0 ∷ 9 ∷ 10 ∷ 11 ∷ []) n
  not_late n (zero, below, is) late = apart n 3 late (lit< tt) (lit< tt) (sym is)
  not_late n (suc zero, below, is) late = apart n 6 late (lit< tt) (lit< tt) (sym is)
  not_late n (suc (suc zero), below, is) late = apart n 7 late (lit< tt) (lit< tt) (sym is)
  not_late n (suc (suc (suc zero)), below, is) late = apart n 8 late (lit< tt) (lit< tt) (sym is)
  not_late n (suc (suc (suc (suc k))), below, is) late = absurd (omega (arith, below))

  -- a feeder's stop ends a recorder before all data, and nothing is said of these
  recorded_stopped : (end : FeedEnd) (stop : Stop) (n : ℕ) → stop_of_feed end ≡ Some stop →
      Contains (3 ∷ 6 ∷ 7 ∷ 8 ∷ []) n →
      IsRecorded task words told blocks end answer before after →
      RecordsFiles task words told (Some blocks) answer before after n
  recorded_stopped end stop n is known r = recorded_at end n r (λ e at. can e (r.as_fed e at))
      (λ e. absurd (not_late n known (3, lit< tt, sym e))) (λ late. absurd (not_late n known late))
    where
      no_stop : None ≡ Some stop → ⊥
      no_stop e = cc

      can : (e : RecordEnd) → EndsAsFed end e → CanEndAt e n
      can (recorder.Whole count) whole = absurd (no_stop (sym (ap stop_of_feed whole.1) ∙ is))
      can (recorder.Cut count) cut = known
      can recorder.FileFault any = Contains-append_left (3 ∷ 6 ∷ 7 ∷ 8 ∷ []) (9 ∷ 10 ∷ 11 ∷ []) n known
      can (recorder.BadHeader fault) never = absurd never
      can (recorder.TooLong limit) never = absurd never

  -- ---- where the feeder was stopped

  -- the walk stops so at this file, and what was sealed is its stream
  abbrev StopsSo : Stop → ℕ → Type 0
  StopsSo stop file = StopsThere file task words told (λ s w.
      IsWalkStop w stop × (sealed_at_end blocks ≡ walk_stream s.size w))

  stops : (end : FeedEnd) (stop : Stop) (f : IsRunFed task words told blocks end) →
      ((bytes : ℕ) → end ≢ feed.Whole bytes) →
      ForFilesTo (f.at.file + 1) task words told (λ s w. IsWalkEnd w s.size (sealed_at_end blocks) end) →
      ForFilesTo (f.at.file + 1) task words told (λ s w. StopsAtFile (walk_stop w) f.at.file) →
      stop_of_feed end ≡ Some stop → StopsSo stop f.at.file
  stops end stop f early walked at is = record {
    begun = f.begun;
    there = f.there early;
    passed = f.passed;
    stops = at;
    says = λ s files says are. (
      walk_stopped (stream_for s files) s.size (sealed_at_end blocks) end (Some stop) (walked s files says are) is,
      (walked s files says are).stream,
    );
  }

  -- what follows of the files there
  there : (P Q : SettingsFor task → FileStream → Type 0) →
      ((s : SettingsFor task) (files : List (List ℕ)) → P s (stream_for s files) → Q s (stream_for s files)) → (file : ℕ) →
      StopsThere file task words told P → StopsThere file task words told Q
  there P Q more file at = record {
    begun = at.begun;
    there = at.there;
    passed = at.passed;
    stops = at.stops;
    says = λ s files says are. more s files (at.says s files says are);
  }

  -- so a stop says of the files
  stops_at : (stop : Stop) (file : ℕ) → StopNames stop file →
      ((s : SettingsFor task) → Says task words s → StopTells stop s.max_bytes) → StopsSo stop file →
      StopsAt task words told stop
  stops_at stop file names tells so = record {
    file = file;
    names = names;
    tells = tells;
    stops = there _ _ (λ s files x. x.0) file so;
  }

  -- and of the blocks
  sealed_is : (s : SettingsFor task) (w : FileStream) → sealed_at_end blocks ≡ walk_stream s.size w → (b : Finished) →
      Some blocks ≡ Some b → sealed_at_end b ≡ walk_stream s.size w
  sealed_is s w is b e = subst (λ (x : Finished). sealed_at_end x ≡ walk_stream s.size w) (one_list blocks b e) is

  header_stopped : (k : ℕ) (cause : HeaderCause) (file : ℕ) → StopsSo (Header k cause) file →
      StopsAtFiles task words told (Some blocks) 3
  header_stopped k cause file so = record {
    first_header = λ e none. absurd cc;
    later_header = λ e some.
        (file, there _ _ (λ s files x. ((k, cause, x.0), sealed_is s (stream_for s files) x.1)) file so);
    plan = λ e. absurd (omega (arith, e));
    gap = λ e. absurd (omega (arith, e));
    too_long = λ e. absurd (omega (arith, e));
  }

  gap_stopped : (k expected found file : ℕ) → StopsSo (Gap k expected found) file →
      StopsAtFiles task words told (Some blocks) 7
  gap_stopped k expected found file so = record {
    first_header = λ e. absurd (omega (arith, e));
    later_header = λ e. absurd (omega (arith, e));
    plan = λ e. absurd (omega (arith, e));
    gap = λ e.
        (file, there _ _ (λ s files x. ((k, expected, found, x.0), sealed_is s (stream_for s files) x.1)) file so);
    too_long = λ e. absurd (omega (arith, e));
  }

  -- the limit is that of the settings
  long_stopped : (limit file : ℕ) → ((s : SettingsFor task) → Says task words s → limit ≡ s.max_bytes) →
      StopsSo (TooLong limit) file → StopsAtFiles task words told (Some blocks) 8
  long_stopped limit file tells so = record {
    first_header = λ e. absurd (omega (arith, e));
    later_header = λ e. absurd (omega (arith, e));
    plan = λ e. absurd (omega (arith, e));
    gap = λ e. absurd (omega (arith, e));
    too_long = λ e. (
      file,
      record {
        begun = so.begun;
        there = so.there;
        passed = so.passed;
        stops = so.stops;
        says = λ s files says are.
            let w = stream_for s files in
            let x = so.says s files says are in
            (subst (λ n. IsWalkStop w (TooLong n)) (tells s says) x.0, sealed_is s w x.1);
      },
    );
  }

  pub ends_stopped : (end : FeedEnd) (stop : Stop) → IsRunFed task words told blocks end →
      IsRecorded task words told blocks end answer before after → stop_of_feed end ≡ Some stop →
      EndsAt task words told (Some blocks) answer before after (status_of stop)
      × SaysOfFiles task words told stop
  ends_stopped (feed.Whole bytes) stop f r is = absurd cc
  ends_stopped feed.ReadFault stop f r is =
      subst (λ (x : Stop). EndsAt task words told (Some blocks) answer before after (status_of x)
      × SaysOfFiles task words told x) (one_stop _ stop is) (
        record {
          stopped = none_stopped task words told (Some blocks) 6 (λ e. omega (arith, e))
              (λ e. omega (arith, e)) (λ e. omega (arith, e)) (λ e. omega (arith, e));
          sealed = sealed_broken f;
          recorded = recorded_stopped feed.ReadFault stop 6 is (1, lit< tt, refl) r;
        },
        tt,
      )
  ends_stopped (feed.BadHeader file cause) stop f r is =
      let so = stops (feed.BadHeader file cause) (Header file cause) f (λ bytes e. cc) f.walked f.stops refl in
      subst (λ (x : Stop). EndsAt task words told (Some blocks) answer before after (status_of x)
      × SaysOfFiles task words told x) (one_stop _ stop is) (
        record {
          stopped = header_stopped file cause f.at.file so;
          sealed = sealed_at 3 (1, lit< tt, refl) (feed.BadHeader file cause) f
              (λ e. omega (arith, e)) (λ late. absurd (apart 3 3 late (lit< tt) (lit< tt) refl))
              (all_told f.at.file (feed.BadHeader file cause) f.walked);
          recorded = recorded_stopped (feed.BadHeader file cause) stop 3 is (0, lit< tt, refl) r;
        },
        inr (stops_at (Header file cause) f.at.file f.names (λ s says. tt) so),
      )
  ends_stopped (feed.Gap file expected found) stop f r is =
      let so = stops (feed.Gap file expected found) (Gap file expected found) f (λ bytes e. cc) f.walked f.stops refl
      in
      subst (λ (x : Stop). EndsAt task words told (Some blocks) answer before after (status_of x)
      × SaysOfFiles task words told x) (one_stop _ stop is) (
        record {
          stopped = gap_stopped file expected found f.at.file so;
          sealed = sealed_at 7 (3, lit< tt, refl) (feed.Gap file expected found) f
              (λ e. omega (arith, e)) (λ late. absurd (apart 7 7 late (lit< tt) (lit< tt) refl))
              (all_told f.at.file (feed.Gap file expected found) f.walked);
          recorded = recorded_stopped (feed.Gap file expected found) stop 7 is (2, lit< tt, refl) r;
        },
        stops_at (Gap file expected found) f.at.file f.names (λ s says. tt) so,
      )
  ends_stopped (feed.TooLong limit) stop f r is =
      let so = stops (feed.TooLong limit) (TooLong limit) f (λ bytes e. cc) f.walked f.stops refl in
      subst (λ (x : Stop). EndsAt task words told (Some blocks) answer before after (status_of x)
      × SaysOfFiles task words told x) (one_stop _ stop is) (
        record {
          stopped = long_stopped limit f.at.file (f.limit limit refl) so;
          sealed = sealed_at 8 (4, lit< tt, refl) (feed.TooLong limit) f (λ e. omega (arith, e))
              (λ late. absurd (apart 8 8 late (lit< tt) (lit< tt) refl))
              (all_told f.at.file (feed.TooLong limit) f.walked);
          recorded = recorded_stopped (feed.TooLong limit) stop 8 is (3, lit< tt, refl) r;
        },
        stops_at (TooLong limit) f.at.file tt (f.limit limit refl) so,
      )

  -- ---- where all data were sealed

  late_known : (n : ℕ) → Contains (0 ∷ 9 ∷ 10 ∷ 11 ∷ []) n →
      Contains (0 ∷ 3 ∷ 6 ∷ 7 ∷ 8 ∷ 9 ∷ 10 ∷ 11 ∷ []) n
  late_known n (zero, below, is) = (0, lit< tt, is)
  late_known n (suc zero, below, is) = (5, lit< tt, is)
  late_known n (suc (suc zero), below, is) = (6, lit< tt, is)
  late_known n (suc (suc (suc zero)), below, is) = (7, lit< tt, is)
  late_known n (suc (suc (suc (suc k))), below, is) = absurd (omega (arith, below))

  -- where all data were sealed, a recorder ended with them
  can_late : (bytes n : ℕ) → IsLate answer n → (e : RecordEnd) → answer ≡ Some e → EndsAsFed (feed.Whole bytes) e →
      CanEndAt e n
  can_late bytes n late (recorder.Whole count) at whole =
      not_last n late.known (λ last. no_fault (sym at ∙ late.failed last))
    where
      no_fault : Some (recorder.Whole count) ≡ Some recorder.FileFault → ⊥
      no_fault e = cc
  can_late bytes n late (recorder.Cut count) at cut = absurd (cut bytes refl)
  can_late bytes n late recorder.FileFault at any = not_first n late.known (λ zeroth. late.all zeroth at)
  can_late bytes n late end at never = absurd never

  pub ends_whole : WholeRunsRecordData → (end : FeedEnd) (n : ℕ) → IsRunFed task words told blocks end →
      IsRecorded task words told blocks end answer before after → stop_of_feed end ≡ None →
      IsLate answer n →
      EndsAt task words told (Some blocks) answer before after n
      × ForFiles task words told (λ s w. CanBegin task s w × (walk_stop w ≡ walk.Whole))
  ends_whole law (feed.Whole bytes) n f r is late =
      let walked = all_told f.at.file (feed.Whole bytes) f.walked in
      let whole : ForFiles task words told (λ s w. walk_stop w ≡ walk.Whole)
      = λ s files says are. let w = stream_for s files in
      whole_walk w.max_bytes (walk_stop w) (walk_stopped w s.size (sealed_at_end blocks)
      (feed.Whole bytes) None (walked s files says are) refl) in (
        record {
          stopped = none_stopped task words told (Some blocks) n
              (apart n 3 late.known (lit< tt) (lit< tt)) (apart n 4 late.known (lit< tt) (lit< tt))
              (apart n 7 late.known (lit< tt) (lit< tt)) (apart n 8 late.known (lit< tt) (lit< tt));
          sealed = sealed_at n (late_known n late.known) (feed.Whole bytes) f
              (apart n 6 late.known (lit< tt) (lit< tt))
              (λ known s says. subst (λ k. PassesTo k task words told) (f.last bytes refl s says) f.passed) walked;
          recorded = recorded_at (feed.Whole bytes) n r (λ e at. can_late bytes n late e at (r.as_fed e at)) late.failed
              (λ e s files says are.
              let w = stream_for s files in
              ap (files_of_stream w s.file_size) (walked s files says are).stream
              ∙ law s.size s.file_size w (whole s files says are));
        },
        λ s files says are. (f.begun.1 s files says (told_at told s.names files are), whole s files says are),
      )
  ends_whole law end n f r is late = absurd cc
