-- How a program that searches alone ends: what any run comes to, over inputs whose calm may be another.
use Rattle.std.proofs.Common.{◌≡◌, ◌≢◌, ◌⊎◌, ℕ, zero, suc, ◌<◌, List, [], ◌∷◌, length, refl, ap, sym, subst, inl, inr, Some, None, Contains, lit<, arith}
use Rattle.std.specs.Prelude.{Option}
use Rattle.std.proofs.lemmas.Bool.{cases_eq}
use Rattle.std.proofs.lemmas.List.Elements.{Contains-append_left}
use Rattle.psr_base.specs.Told.{InputsSeen}
use Rattle.psr_base.specs.Made.{FilesSeen}
use Rattle.ring_ends.specs.declared.finished.Finished.{Finished}
use Rattle.search_words.specs.declared.fault.WordFault.{WordFault}
use Rattle.search_words.specs.declared.fault.WordFault.TheVariants as words_fault
use Rattle.search_words.specs.Settings.{SettingsSeen}
use Rattle.stream_model.specs.Walk as walk
use Rattle.stream_model.specs.Walk.{walk_stop}
use Rattle.disk_feeder.specs.declared.answers.FeedEnd.{FeedEnd}
use Rattle.disk_feeder.specs.declared.answers.FeedEnd.TheVariants as feed
use Rattle.disk_feeder.specs.Filling.{HoldsAll}
use Rattle.run_outcome.specs.declared.stop.Stop.{Stop}
use Rattle.run_outcome.specs.declared.stop.Stop.TheVariants.{Header, ReadFault, Gap, TooLong}
use Rattle.run_outcome.specs.Texts.{status_of}
use Rattle.run_outcome.specs.Conversions.{stop_of_words, stop_of_feed}
use Rattle.run_outcome.specs.Lone.{LoneSearch, SayAlone, ExplainsAlone}
use Rattle.run_outcome.specs.Runs.{Alone, ForFiles, PassesTo, CanBegin}
use Rattle.run_outcome.specs.Outcomes.{JudgesWords, ReadsInputs, StopsAtFiles, BreaksStream, SealsStream, AllCleared}
use Rattle.run_outcome.specs.Ends.{CountsFaults, StopsBefore, IsRecorded, RunsThrough, StatusesSayStops, WordsSayOnce, EndAtWords, EndBeforeSession, EndAtStop, EndAfterWhole}
use Rattle.drive_lone.specs.Outcomes.{SealsAlone, RunsAlone, EndsAlone}
use Rattle.drive_lone.specs.EndLaws.{AloneAtWords, AloneBeforeSession, AloneAtOwnStop, AloneAtFeedStop, AloneAfterWhole, GoesThrough}

one_list : (a b : Finished) → Some a ≡ Some b → a ≡ b
one_list a b e = cc

one_stop : (a b : Stop) → Some a ≡ Some b → a ≡ b
one_stop a b e = cc

not_fault : (end : FeedEnd) → stop_of_feed end ≡ None → end ≢ feed.ReadFault
not_fault (feed.Whole bytes) is f = cc
not_fault feed.ReadFault is f = cc
not_fault (feed.BadHeader file cause) is f = cc
not_fault (feed.Gap file expected found) is f = cc
not_fault (feed.TooLong limit) is f = cc

-- no files are made
no_files : FilesSeen
no_files = record { made = None; left = None; faults = 0 }

-- ---- statuses

-- a status with a data ring, of a run that makes no files
with_ring : (own n : ℕ) → n ≢ 11 → Contains (0 ∷ 3 ∷ 6 ∷ 7 ∷ 8 ∷ 9 ∷ 10 ∷ 11 ∷ []) n →
    Contains (0 ∷ 3 ∷ 6 ∷ 7 ∷ 8 ∷ 9 ∷ 10 ∷ own ∷ []) n
with_ring own n other (zero, below, is) = (0, lit< tt, is)
with_ring own n other (suc zero, below, is) = (1, lit< tt, is)
with_ring own n other (suc (suc zero), below, is) = (2, lit< tt, is)
with_ring own n other (suc (suc (suc zero)), below, is) = (3, lit< tt, is)
with_ring own n other (suc (suc (suc (suc zero))), below, is) = (4, lit< tt, is)
with_ring own n other (suc (suc (suc (suc (suc zero)))), below, is) = (5, lit< tt, is)
with_ring own n other (suc (suc (suc (suc (suc (suc zero))))), below, is) = (6, lit< tt, is)
with_ring own n other (suc (suc (suc (suc (suc (suc (suc zero)))))), below, is) = absurd (other (sym is))
with_ring own n other (suc (suc (suc (suc (suc (suc (suc (suc k))))))), below, is) = absurd (omega (arith, below))

-- the statuses of a run of which the feeder was stopped, of which 0 is none
abbrev feed_statuses : List ℕ
feed_statuses = 3 ∷ 6 ∷ 7 ∷ 8 ∷ []

not_stopped : Contains feed_statuses 0 → ⊥
not_stopped (zero, below, is) = omega (arith, is)
not_stopped (suc zero, below, is) = omega (arith, is)
not_stopped (suc (suc zero), below, is) = omega (arith, is)
not_stopped (suc (suc (suc zero)), below, is) = omega (arith, is)
not_stopped (suc (suc (suc (suc k))), below, is) = omega (arith, below)

module _ (own : ℕ) (lone : LoneSearch) (words : List (List ℕ)) (inputs : InputsSeen) where
  -- ---- what the status says

  -- no file was opened, or reading did not fail
  still_read : (is_calm : Type 0) → inputs.faults_after ≡ inputs.faults_before → (n : ℕ) → n ≢ 6 →
      ReadsInputs (Alone lone) words inputs is_calm n
  still_read is_calm still n other = record {
    failed = λ e. absurd (other e);
    quiet = λ e. still;
    count = omega (arith, still);
    serves = λ calm s says holds. other;
  }

  -- reading failed at 6 alone
  was_read : WordsSayOnce → (is_calm failed : Type 0) (s : SettingsSeen) (n : ℕ) → SayAlone lone words s →
      CountsFaults inputs is_calm s.names failed → (n ≡ 6 → failed) → (failed → n ≡ 6) →
      ReadsInputs (Alone lone) words inputs is_calm n
  was_read once is_calm failed s n says read six fault = record {
    failed = λ e. read.rose (six e);
    quiet = λ e. read.quiet (λ f. e (fault f));
    count = read.count;
    serves = λ calm t says' holds e. read.serves calm
        (subst (λ (u : SettingsSeen). HoldsAll inputs.told u.names) (once (Alone lone) words t s says' says) holds)
        (six e);
  }

  were_said : (s : SettingsSeen) → SayAlone lone words s → (n : ℕ) → n ≢ 2 → JudgesWords (Alone lone) words n
  were_said s says n two = record { refused = λ e. absurd (two e); said = λ e f. (s, says) }

  -- no file stops the run
  none_stopped : (blocks : Option Finished) (n : ℕ) → n ≢ 3 → n ≢ 4 → n ≢ 7 → n ≢ 8 →
      StopsAtFiles (Alone lone) words inputs.told blocks n
  none_stopped blocks n three four seven eight = record {
    first_header = λ e. absurd (three e);
    later_header = λ e. absurd (three e);
    plan = λ e. absurd (four e);
    gap = λ e. absurd (seven e);
    too_long = λ e. absurd (eight e);
  }

  -- there is no data ring
  none_sealed : (n : ℕ) → Contains (2 ∷ 3 ∷ 4 ∷ 5 ∷ 6 ∷ own ∷ []) n → SealsAlone own lone words inputs.told None n
  none_sealed n known = record {
    none = λ e. known;
    some = λ some. absurd cc;
    begun = λ some. absurd cc;
    passed = λ some. absurd cc;
    sealed = λ b e. absurd cc;
    broken = λ b e. absurd cc;
    cleared = λ b e. absurd cc;
  }

  none_of : (n : ℕ) → SealsStream (Alone lone) words inputs.told None n → SealsAlone own lone words inputs.told None n
  none_of n seals = none_sealed n (Contains-append_left (2 ∷ 3 ∷ 4 ∷ 5 ∷ 6 ∷ []) (own ∷ []) n (seals.none refl))

  -- where none of its files stops the walk, unless the feeder was stopped
  ring_of : (b : Finished) (n : ℕ) → n ≢ 11 → AllCleared b 0 1 →
      (¬ Contains feed_statuses n → (s : SettingsSeen) → SayAlone lone words s →
      PassesTo (length s.names) (Alone lone) words inputs.told) →
      SealsStream (Alone lone) words inputs.told (Some b) n → SealsAlone own lone words inputs.told (Some b) n
  ring_of b n other cleared passed seals = record {
    none = λ e. absurd cc;
    some = λ some. with_ring own n other (seals.some some);
    begun = seals.begun;
    passed = λ some. passed;
    sealed = seals.sealed;
    broken = seals.broken;
    cleared = λ c e. subst (λ x. AllCleared x 0 1) (one_list b c e) cleared;
  }

  -- ---- at the words

  at_words : (calm is_calm : Type 0) → EndAtWords calm → (fault : WordFault) (stop : Stop) →
      ExplainsAlone lone words fault → stop ≡ stop_of_words fault → inputs.faults_after ≡ inputs.faults_before →
      EndsAlone own lone words inputs is_calm None stop
  at_words calm is_calm law fault stop why is still =
      let e = law (Alone lone) words inputs no_files fault stop why is still in
      record {
        known = e.known;
        least = e.least;
        most = e.most;
        run = record {
          judged = e.run.judged;
          read = still_read is_calm still (status_of stop) (not_six fault stop is);
          stopped = e.run.ends.stopped;
          sealed = none_of (status_of stop) e.run.ends.sealed;
        };
        said = e.said;
      }
    where
      not_six : (f : WordFault) (x : Stop) → x ≡ stop_of_words f → status_of x ≢ 6
      not_six words_fault.Refused x same e = let two : status_of x ≡ 2 = ap status_of same in omega (arith, two, e)
      not_six (words_fault.OutOfRange opt) x same e =
          let two : status_of x ≡ 2 = ap status_of same in omega (arith, two, e)
      not_six words_fault.Memory x same e = let five : status_of x ≡ 5 = ap status_of same in omega (arith, five, e)

  -- ---- before the session

  module _ (once : WordsSayOnce) (s : SettingsSeen) (says : SayAlone lone words s) where
    -- the inputs failed
    fault_before : (is_calm : Type 0) → CountsFaults inputs is_calm s.names (ReadFault ≡ ReadFault) →
        EndsAlone own lone words inputs is_calm None ReadFault
    fault_before is_calm read = record {
      known = (4, lit< tt, refl);
      least = omega arith;
      most = omega arith;
      run = record {
        judged = were_said s says 6 (λ e. omega (arith, e));
        read = was_read once is_calm (ReadFault ≡ ReadFault) s 6 says read (λ e. refl) (λ e. refl);
        stopped = none_stopped None 6 (λ e. omega (arith, e)) (λ e. omega (arith, e)) (λ e. omega (arith, e))
            (λ e. omega (arith, e));
        sealed = none_sealed 6 (4, lit< tt, refl);
      };
      said = (tt, tt);
    }

    -- or anything else
    other_before : (calm is_calm : Type 0) → EndBeforeSession calm → (stop : Stop) →
        StopsBefore (Alone lone) words inputs.told stop → status_of stop ≢ 6 →
        CountsFaults inputs is_calm s.names (stop ≡ ReadFault) → EndsAlone own lone words inputs is_calm None stop
    other_before calm is_calm law stop b other read =
        let no_fault : stop ≢ ReadFault = λ f. other (ap status_of f) in
        let e = law (Alone lone) words s inputs no_files no_files stop says b refl (record {
          rose = λ f. absurd (no_fault f);
          quiet = read.quiet;
          count = read.count;
          serves = λ is holds f. no_fault f;
        }) in
        record {
          known = e.known;
          least = e.least;
          most = e.most;
          run = record {
            judged = e.run.judged;
            read = still_read is_calm (read.quiet no_fault) (status_of stop) other;
            stopped = e.run.ends.stopped;
            sealed = none_of (status_of stop) e.run.ends.sealed;
          };
          said = e.said;
        }

    before_session : (calm is_calm : Type 0) → EndBeforeSession calm → (stop : Stop) →
        StopsBefore (Alone lone) words inputs.told stop → CountsFaults inputs is_calm s.names (stop ≡ ReadFault) →
        StatusesSayStops → (status_of stop ≡ 6) ⊎ (status_of stop ≢ 6) →
        EndsAlone own lone words inputs is_calm None stop
    before_session calm is_calm law stop b read stops (inl six) =
        let is : stop ≡ ReadFault = stops.read_fault stop six in
        subst (λ (x : Stop). EndsAlone own lone words inputs is_calm None x) (sym is)
        (fault_before is_calm (subst (λ (x : Stop). CountsFaults inputs is_calm s.names (x ≡ ReadFault)) is read))
    before_session calm is_calm law stop b read stops (inr other) = other_before calm is_calm law stop b other read

    -- its own stop
    at_own_stop : (is_calm : Type 0) → 11 < own → CountsFaults inputs is_calm s.names ⊥ →
        RunsAlone own lone words inputs is_calm None own
    at_own_stop is_calm far read = record {
      judged = were_said s says own (λ e. omega (arith, e, far));
      read = still_read is_calm (read.quiet (λ f. f)) own (λ e. omega (arith, e, far));
      stopped = none_stopped None own (λ e. omega (arith, e, far)) (λ e. omega (arith, e, far))
          (λ e. omega (arith, e, far)) (λ e. omega (arith, e, far));
      sealed = none_sealed own (5, lit< tt, refl);
    }

  -- ---- after the session

  none_recorded : (blocks : Finished) (end : FeedEnd) →
      IsRecorded (Alone lone) words inputs.told blocks end None no_files no_files
  none_recorded blocks end = record {
    unrecorded = λ t said off. (refl, refl);
    ended = λ t said on. let off = said.search.one.unrecorded in absurd cc;
    as_fed = λ e is. absurd cc;
    made = λ e is. absurd cc;
    rose = λ e. absurd cc;
    quiet = λ e. refl;
    count = omega arith;
  }

  module _ (once : WordsSayOnce) (s : SettingsSeen) (is_calm : Type 0) (blocks : Finished) where
    -- the feeder stopped at no fault of its inputs
    through_of : (calm : Type 0) (end : FeedEnd) → end ≢ feed.ReadFault →
        GoesThrough lone words s inputs is_calm blocks end →
        RunsThrough (Alone lone) words s inputs calm blocks end None no_files no_files
    through_of calm end no_fault through = record {
      says = through.says;
      fed = through.fed;
      recorded = none_recorded blocks end;
      read = record {
        rose = λ f. absurd (no_fault f);
        quiet = through.read.quiet;
        count = through.read.count;
        serves = λ is holds f. no_fault f;
      };
    }

    -- or at one
    at_fault : GoesThrough lone words s inputs is_calm blocks feed.ReadFault →
        EndsAlone own lone words inputs is_calm (Some blocks) ReadFault
    at_fault through = record {
      known = (4, lit< tt, refl);
      least = omega arith;
      most = omega arith;
      run = record {
        judged = were_said s through.says 6 (λ e. omega (arith, e));
        read = was_read once is_calm (feed.ReadFault ≡ feed.ReadFault) s 6 through.says through.read (λ e. refl)
            (λ e. refl);
        stopped = none_stopped (Some blocks) 6 (λ e. omega (arith, e)) (λ e. omega (arith, e))
            (λ e. omega (arith, e)) (λ e. omega (arith, e));
        sealed = record {
          none = λ e. absurd cc;
          some = λ some. (2, lit< tt, refl);
          begun = λ some. through.fed.begun;
          passed = λ some not. absurd (not (1, lit< tt, refl));
          sealed = λ b e other. absurd (other refl);
          broken = λ b e six.
              subst (λ (x : Finished). BreaksStream (Alone lone) words inputs.told x) (one_list blocks b e) (record {
                at = through.fed.at;
                there = through.fed.there (λ bytes same. cc);
                passed = through.fed.passed;
                front = through.fed.walked;
              });
          cleared = λ b e. subst (λ x. AllCleared x 0 1) (one_list blocks b e) through.cleared;
        };
      };
      said = (tt, tt);
    }

    module _ (calm : Type 0) where
      -- the feeder was stopped at another stop
      other_stop : EndAtStop calm → (end : FeedEnd) (stop : Stop) → end ≢ feed.ReadFault → status_of stop ≢ 6 →
          Contains feed_statuses (status_of stop) → GoesThrough lone words s inputs is_calm blocks end →
          stop_of_feed end ≡ Some stop → EndsAlone own lone words inputs is_calm (Some blocks) stop
      other_stop law end stop no_fault other stopped through is =
          let e = law (Alone lone) words s inputs blocks end None no_files no_files stop
          (through_of calm end no_fault through) is in
          let most = e.most in
          record {
            known = e.known;
            least = e.least;
            most = e.most;
            run = record {
              judged = e.run.judged;
              read = still_read is_calm (through.read.quiet no_fault) (status_of stop) other;
              stopped = e.run.ends.stopped;
              sealed = ring_of blocks (status_of stop) (λ f. omega (arith, f, most)) through.cleared
                  (λ not. absurd (not stopped)) e.run.ends.sealed;
            };
            said = e.said;
          }

      at_feed_stop : EndAtStop calm → (end : FeedEnd) (stop : Stop) →
          GoesThrough lone words s inputs is_calm blocks end → stop_of_feed end ≡ Some stop →
          EndsAlone own lone words inputs is_calm (Some blocks) stop
      at_feed_stop law (feed.Whole bytes) stop through is = absurd cc
      at_feed_stop law feed.ReadFault stop through is =
          subst (λ (x : Stop). EndsAlone own lone words inputs is_calm (Some blocks) x) (one_stop ReadFault stop is)
          (at_fault through)
      at_feed_stop law (feed.BadHeader file cause) stop through is =
          let three : 3 ≡ status_of stop = ap status_of (one_stop (Header file cause) stop is) in
          other_stop law (feed.BadHeader file cause) stop (λ f. absurd cc) (λ e. omega (arith, three, e))
          (0, lit< tt, three) through is
      at_feed_stop law (feed.Gap file expected found) stop through is =
          let seven : 7 ≡ status_of stop = ap status_of (one_stop (Gap file expected found) stop is) in
          other_stop law (feed.Gap file expected found) stop (λ f. absurd cc) (λ e. omega (arith, seven, e))
          (2, lit< tt, seven) through is
      at_feed_stop law (feed.TooLong limit) stop through is =
          let eight : 8 ≡ status_of stop = ap status_of (one_stop (TooLong limit) stop is) in
          other_stop law (feed.TooLong limit) stop (λ f. absurd cc) (λ e. omega (arith, eight, e))
          (3, lit< tt, eight) through is

      -- all data were sealed
      at_late : EndAfterWhole calm → (end : FeedEnd) (n : ℕ) → GoesThrough lone words s inputs is_calm blocks end →
          stop_of_feed end ≡ None → n ≢ 6 → n ≢ 11 → Contains (0 ∷ 9 ∷ 10 ∷ 11 ∷ []) n →
          RunsAlone own lone words inputs is_calm (Some blocks) n
          × ForFiles (Alone lone) words inputs.told (λ t w. CanBegin (Alone lone) t w × (walk_stop w ≡ walk.Whole))
      at_late law end n through whole six last known =
          let no_fault = not_fault end whole in
          let e = law (Alone lone) words s inputs blocks end None no_files no_files n
          (through_of calm end no_fault through) whole (record {
            known = known;
            all = λ zeroth f. cc;
            failed = λ is. absurd (last is);
          }) in (
            record {
              judged = e.0.judged;
              read = still_read is_calm (through.read.quiet no_fault) n six;
              stopped = e.0.ends.stopped;
              sealed = ring_of blocks n last through.cleared (λ not. e.0.ends.sealed.passed refl known)
                  e.0.ends.sealed;
            },
            e.1,
          )

      -- its own stop says of the data ring what a search to the end does
      own_of : (end : FeedEnd) → 11 < own → GoesThrough lone words s inputs is_calm blocks end →
          stop_of_feed end ≡ None → RunsAlone own lone words inputs is_calm (Some blocks) 0 →
          RunsAlone own lone words inputs is_calm (Some blocks) own
      own_of end far through whole at = record {
        judged = were_said s through.says own (λ e. omega (arith, e, far));
        read = still_read is_calm (through.read.quiet (not_fault end whole)) own (λ e. omega (arith, e, far));
        stopped = none_stopped (Some blocks) own (λ e. omega (arith, e, far)) (λ e. omega (arith, e, far))
            (λ e. omega (arith, e, far)) (λ e. omega (arith, e, far));
        sealed = record {
          none = λ e. absurd cc;
          some = λ some. (7, lit< tt, refl);
          begun = at.sealed.begun;
          passed = λ some not. at.sealed.passed some not_stopped;
          sealed = λ b e other. at.sealed.sealed b e (λ f. omega (arith, f));
          broken = λ b e six. absurd (omega (arith, six, far));
          cleared = at.sealed.cleared;
        };
      }

      after_whole : EndAfterWhole calm → (end : FeedEnd) (n : ℕ) → 11 < own →
          GoesThrough lone words s inputs is_calm blocks end → stop_of_feed end ≡ None →
          Contains (0 ∷ 9 ∷ 10 ∷ own ∷ []) n →
          RunsAlone own lone words inputs is_calm (Some blocks) n
          × ForFiles (Alone lone) words inputs.told (λ t w. CanBegin (Alone lone) t w × (walk_stop w ≡ walk.Whole))
      after_whole law end n far through whole (zero, below, is) =
          at_late law end n through whole (λ e. omega (arith, e, is)) (λ e. omega (arith, e, is)) (0, lit< tt, is)
      after_whole law end n far through whole (suc zero, below, is) =
          at_late law end n through whole (λ e. omega (arith, e, is)) (λ e. omega (arith, e, is)) (1, lit< tt, is)
      after_whole law end n far through whole (suc (suc zero), below, is) =
          at_late law end n through whole (λ e. omega (arith, e, is)) (λ e. omega (arith, e, is)) (2, lit< tt, is)
      after_whole law end n far through whole (suc (suc (suc zero)), below, is) =
          let at =
          at_late law end 0 through whole (λ e. omega (arith, e)) (λ e. omega (arith, e)) (0, lit< tt, refl) in (
            subst (λ m. RunsAlone own lone words inputs is_calm (Some blocks) m) is
                (own_of end far through whole at.0),
            at.1,
          )
      after_whole law end n far through whole (suc (suc (suc (suc k))), below, is) = absurd (omega (arith, below))

-- ---- the laws

pub words_law : (calm is_calm : Type 0) → EndAtWords calm → AloneAtWords is_calm
words_law calm is_calm law own lone words inputs fault stop why is still =
    at_words own lone words inputs calm is_calm law fault stop why is still

pub before_law : WordsSayOnce → StatusesSayStops → (calm is_calm : Type 0) → EndBeforeSession calm →
    AloneBeforeSession is_calm
before_law once stops calm is_calm law own lone words s inputs stop says b read =
    before_session own lone words inputs once s says calm is_calm law stop b read stops (cases_eq (status_of stop) 6)

pub own_law : (is_calm : Type 0) → WordsSayOnce → AloneAtOwnStop is_calm
own_law is_calm once own lone words s inputs far says read =
    at_own_stop own lone words inputs once s says is_calm far read

pub stop_law : WordsSayOnce → (calm is_calm : Type 0) → EndAtStop calm → AloneAtFeedStop is_calm
stop_law once calm is_calm law own lone words s inputs blocks end stop through is =
    at_feed_stop own lone words inputs once s is_calm blocks calm law end stop through is

pub whole_law : WordsSayOnce → (calm is_calm : Type 0) → EndAfterWhole calm → AloneAfterWhole is_calm
whole_law once calm is_calm law own lone words s inputs blocks end n far through whole known =
    after_whole own lone words inputs once s is_calm blocks calm law end n far through whole known
