-- How a run of either program ends: what its exit status says of the words, the inputs, the files and the data ring.
use Rattle.std.proofs.Common.{◌≡◌, ◌≢◌, ℕ, ◌-◌, ◌<◌, ◌≤◌, List, length, refl, ap, subst, sym, ◌∙◌, inl, inr, true, false, Some, None, Contains, lit<, arith}
use Rattle.std.proofs.lemmas.List.Elements.{Contains-get_or}
use Rattle.std.proofs.lemmas.List.FromFn.{get_or-range_with_len}
use Rattle.psr_base.specs.Told.{InputsSeen}
use Rattle.psr_base.specs.Made.{FilesSeen}
use Rattle.search_words.specs.declared.fault.WordFault.{WordFault}
use Rattle.search_words.specs.declared.fault.WordFault.TheVariants as words_fault
use Rattle.search_words.specs.declared.fault.WordFault.TheVariants.{Refused, OutOfRange}
use Rattle.search_words.specs.Settings.{SettingsSeen}
use Rattle.disk_feeder.specs.declared.answers.FeedEnd.{FeedEnd}
use Rattle.disk_feeder.specs.declared.answers.FeedEnd.TheVariants as feed
use Rattle.disk_feeder.specs.Filling.{HoldsAll}
use Rattle.run_outcome.specs.declared.stop.Stop.{Stop}
use Rattle.run_outcome.specs.declared.stop.Stop.TheVariants.{Header, Plan, Recording, Memory, ReadFault, Gap, TooLong}
use Rattle.run_outcome.specs.Texts.{status_of}
use Rattle.run_outcome.specs.Conversions.{stop_of_words, stop_of_feed}
use Rattle.run_outcome.specs.Lone.{LoneSearch, SayAlone, IsOfOther, ExplainsAlone}
use Rattle.run_outcome.specs.Runs.{Task, Searching, RecordingAlone, Alone, SettingsFor, Says, Explains, IsStopOfWords}
use Rattle.run_outcome.specs.Outcomes.{JudgesWords, ReadsInputs}
use Rattle.run_outcome.specs.Laws.{WholeRunsRecordData}
use Rattle.run_outcome.specs.Ends.{EndsAt, EndsRun, EndsShort, short_statuses, CountsFaults, ComesBefore, EndAtWords, EndBeforeSession, EndAtStop, EndAfterWhole}
use Rattle.run_outcome.proofs.Before.{say_once, ends_plainly, at_status, says_of}
use Rattle.run_outcome.proofs.After.{ends_stopped, ends_whole}
use Rattle.run_outcome.proofs.Statuses.{apart}

one_stop : (a b : Stop) → Some a ≡ Some b → a ≡ b
one_stop a b e = cc

-- ---- the statuses

-- those from 2 to 8
short : (n : ℕ) → 2 ≤ n → n ≤ 8 → Contains short_statuses n
short n least most =
    let below : n - 2 < 7 = omega (arith, least, most) in
    subst (λ m. Contains short_statuses m)
    (get_or-range_with_len 2 7 (n - 2) 0 below ∙ omega (arith, least))
    (Contains-get_or short_statuses (n - 2) 0 below)

-- the status of a stop between the words and the session
record IsEarly (n : ℕ) : Type 0 where
  pub least : 3 ≤ n
  pub most : n ≤ 6

early : (stop : Stop) → ComesBefore stop → IsEarly (status_of stop)
early (Header file cause) kind = record { least = omega arith; most = omega arith }
early (Plan cause) kind = record { least = omega arith; most = omega arith }
early (Recording cause) kind = record { least = omega arith; most = omega arith }
early Memory kind = record { least = omega arith; most = omega arith }
early ReadFault kind = record { least = omega arith; most = omega arith }
early stop kind = absurd kind

-- 5 is that of want of memory, and 6 that of the inputs' fault
pub five_is : (stop : Stop) → status_of stop ≡ 5 → stop ≡ Memory
five_is Memory e = refl
five_is stop e = absurd (omega (arith, e))

pub six_is : (stop : Stop) → status_of stop ≡ 6 → stop ≡ ReadFault
six_is ReadFault e = refl
six_is stop e = absurd (omega (arith, e))

-- the stop of a feeder, which says nothing of the words
record IsFeedStop (task : Task) (words : List (List ℕ)) (end : FeedEnd) (stop : Stop) : Type 0 where
  pub least : 3 ≤ status_of stop
  pub most : status_of stop ≤ 8
  pub fault : end ≡ feed.ReadFault → status_of stop ≡ 6
  pub six : status_of stop ≡ 6 → end ≡ feed.ReadFault
  pub silent : IsStopOfWords task words stop

feed_stop : (task : Task) (words : List (List ℕ)) (end : FeedEnd) (stop : Stop) → stop_of_feed end ≡ Some stop →
    IsFeedStop task words end stop
feed_stop task words (feed.Whole bytes) stop e = absurd cc
feed_stop task words feed.ReadFault stop e =
    subst (λ (x : Stop). IsFeedStop task words feed.ReadFault x) (one_stop ReadFault stop e) (record {
      least = omega arith;
      most = omega arith;
      fault = λ f. refl;
      six = λ f. refl;
      silent = tt;
    })
feed_stop task words (feed.BadHeader file cause) stop e =
    subst (λ (x : Stop). IsFeedStop task words (feed.BadHeader file cause) x) (one_stop (Header file cause) stop e)
    (record {
      least = omega arith;
      most = omega arith;
      fault = λ f. absurd cc;
      six = λ f. absurd (omega (arith, f));
      silent = tt;
    })
feed_stop task words (feed.Gap file expected found) stop e =
    subst (λ (x : Stop). IsFeedStop task words (feed.Gap file expected found) x)
    (one_stop (Gap file expected found) stop e) (record {
      least = omega arith;
      most = omega arith;
      fault = λ f. absurd cc;
      six = λ f. absurd (omega (arith, f));
      silent = tt;
    })
feed_stop task words (feed.TooLong limit) stop e =
    subst (λ (x : Stop). IsFeedStop task words (feed.TooLong limit) x) (one_stop (TooLong limit) stop e) (record {
      least = omega arith;
      most = omega arith;
      fault = λ f. absurd cc;
      six = λ f. absurd (omega (arith, f));
      silent = tt;
    })

not_fault : (end : FeedEnd) → stop_of_feed end ≡ None → end ≢ feed.ReadFault
not_fault (feed.Whole bytes) is f = cc
not_fault feed.ReadFault is f = cc
not_fault (feed.BadHeader file cause) is f = cc
not_fault (feed.Gap file expected found) is f = cc
not_fault (feed.TooLong limit) is f = cc

-- nor does one between the words and the session
silent : (task : Task) (words : List (List ℕ)) (stop : Stop) → ComesBefore stop → IsStopOfWords task words stop
silent task words (Header file cause) kind = tt
silent task words (Plan cause) kind = tt
silent task words (Recording cause) kind = tt
silent task words Memory kind = tt
silent task words ReadFault kind = tt
silent task words stop kind = absurd kind

module _ (is_calm : Type 0) (task : Task) (words : List (List ℕ)) where
  -- ---- at the words

  -- what the words don't say
  judges : ((s : SettingsFor task) → ¬ Says task words s) → JudgesWords task words 2
  judges unsaid = record { refused = λ e. unsaid; said = λ e f. absurd (e refl) }

  -- no file was opened
  still_read : (inputs : InputsSeen) → inputs.faults_after ≡ inputs.faults_before → (n : ℕ) → n ≢ 6 →
      ReadsInputs task words inputs is_calm n
  still_read inputs still n other = record {
    failed = λ e. absurd (other e);
    quiet = λ e. still;
    count = omega (arith, still);
    serves = λ calm s says holds. other;
  }

  -- ---- where the words say settings

  module _ (inputs : InputsSeen) (s : SettingsFor task) (says : Says task words s) where
    were_said : (n : ℕ) → n ≢ 2 → JudgesWords task words n
    were_said n two = record { refused = λ e. absurd (two e); said = λ e f. (s, says) }

    -- reading failed at 6 alone
    was_read : (failed : Type 0) (n : ℕ) → CountsFaults inputs is_calm s.names failed → (n ≡ 6 → failed) →
        (failed → n ≡ 6) → ReadsInputs task words inputs is_calm n
    was_read failed n read six fault = record {
      failed = λ e. read.rose (six e);
      quiet = λ e. read.quiet (λ f. e (fault f));
      count = read.count;
      serves = λ calm t says' holds e. read.serves calm
          (subst (λ (u : SettingsFor task). HoldsAll inputs.told u.names) (say_once task words t s says' says) holds)
          (six e);
    }

-- ---- a program that searches alone

-- words that are refused say no settings of its searches
unsaid_alone : (lone : LoneSearch) (words : List (List ℕ)) → ExplainsAlone lone words Refused → (s : SettingsSeen) →
    ¬ SayAlone lone words s
unsaid_alone lone words (inl form) s says = let has = says.form in cc
unsaid_alone lone words (inr (inl (inl out))) s says = out says.search.says.taken
unsaid_alone lone words (inr (inl (inr (t, said, other)))) s says = one_search other
  where
    same : s ≡ t
    same = says.search.says.values ∙ sym said.values

    one_search : IsOfOther t → ⊥
    one_search (inl several) = several (subst (λ (u : SettingsSeen). length u.starts ≡ 1) same says.search.one.transfer)
    one_search (inr records) =
        let not : t.recording ≡ false =
        subst (λ (u : SettingsSeen). u.recording ≡ false) same says.search.one.unrecorded in cc
unsaid_alone lone words (inr (inr (t, said, made))) s says =
    let same : s ≡ t = says.search.says.values ∙ sym said.says.values in
    let does : lone.makes t ≡ true = subst (λ u. lone.makes u ≡ true) same says.made in cc

pub at_words : (is_calm : Type 0) → EndAtWords is_calm
at_words is_calm task words inputs seen fault stop why is still =
    subst (λ (x : Stop). EndsShort task words inputs is_calm None None seen seen x) (sym is) (by_fault fault why)
  where
    unsaid : (t : Task) (f : WordFault) → Explains t words f → status_of (stop_of_words f) ≡ 2 →
        (s : SettingsFor t) → ¬ Says t words s
    unsaid Searching Refused out two s says = out says.taken
    unsaid RecordingAlone Refused out two s says = out says.taken
    unsaid (Alone lone) Refused out two s says = unsaid_alone lone words out s says
    unsaid Searching (OutOfRange opt) out two s says = cc
    unsaid RecordingAlone (OutOfRange opt) out two s says = cc
    unsaid (Alone lone) (OutOfRange opt) out two s says =
        let value = out.1.1 in
        let fits = says.search.says.in_range in cc
    unsaid t words_fault.Memory out two s says = omega (arith, two)

    refused : (f : WordFault) → Explains task words f → status_of (stop_of_words f) ≡ 2 →
        EndsRun task words inputs is_calm None None seen seen 2
    refused f out two = record {
      judged = judges is_calm task words (unsaid task f out two);
      read = still_read is_calm task words inputs still 2 (λ e. omega (arith, e));
      ends = ends_plainly task words inputs.told 2 (0, lit< tt, refl) seen;
    }

    by_fault : (f : WordFault) → Explains task words f →
        EndsShort task words inputs is_calm None None seen seen (stop_of_words f)
    by_fault Refused out = record {
      known = (0, lit< tt, refl);
      least = omega arith;
      most = omega arith;
      run = refused Refused out refl;
      said = (out, tt);
    }
    by_fault (OutOfRange opt) out = record {
      known = (0, lit< tt, refl);
      least = omega arith;
      most = omega arith;
      run = refused (OutOfRange opt) out refl;
      said = (out, tt);
    }
    by_fault words_fault.Memory out = record {
      known = (3, lit< tt, refl);
      least = omega arith;
      most = omega arith;
      run = record {
        judged = record { refused = λ e. absurd (omega (arith, e)); said = λ e f. absurd (f refl) };
        read = still_read is_calm task words inputs still 5 (λ e. omega (arith, e));
        ends = ends_plainly task words inputs.told 5 (1, lit< tt, refl) seen;
      };
      said = (tt, tt);
    }

pub before_session : (is_calm : Type 0) → EndBeforeSession is_calm
before_session is_calm task words s inputs before after stop says b stands read =
    let at = early stop b.kind in
    let least = at.least in
    let most = at.most in
    record {
      known = short (status_of stop) (omega (arith, least)) (omega (arith, most));
      least = omega (arith, least);
      most = omega (arith, most);
      run = record {
        judged = were_said is_calm task words inputs s says (status_of stop) (λ e. omega (arith, e, least));
        read = was_read is_calm task words inputs s says (stop ≡ ReadFault) (status_of stop) read (six_is stop)
            (λ e. ap status_of e);
        ends = subst (λ (seen : FilesSeen). EndsAt task words inputs.told None None before seen (status_of stop))
            (sym stands) (at_status task words inputs.told stop b before);
      };
      said = (silent task words stop b.kind, says_of task words inputs.told stop b);
    }

pub at_stop : (is_calm : Type 0) → EndAtStop is_calm
at_stop is_calm task words s inputs blocks end answer before after stop through is =
    let at = feed_stop task words end stop is in
    let least = at.least in
    let ends =
    ends_stopped task words inputs.told blocks answer before after end stop through.fed through.recorded is in
    record {
      known = short (status_of stop) (omega (arith, least)) at.most;
      least = omega (arith, least);
      most = at.most;
      run = record {
        judged = were_said is_calm task words inputs s through.says (status_of stop) (λ e. omega (arith, e, least));
        read = was_read is_calm task words inputs s through.says (end ≡ feed.ReadFault) (status_of stop) through.read
            at.six at.fault;
        ends = ends.0;
      };
      said = (at.silent, ends.1);
    }

pub after_whole : WholeRunsRecordData → (is_calm : Type 0) → EndAfterWhole is_calm
after_whole law is_calm task words s inputs blocks end answer before after n through whole late =
    let ends =
    ends_whole task words inputs.told blocks answer before after law end n through.fed through.recorded whole late in (
      record {
        judged = were_said is_calm task words inputs s through.says n
            (apart n 2 late.known (lit< tt) (lit< tt));
        read = was_read is_calm task words inputs s through.says (end ≡ feed.ReadFault) n through.read
            (λ e. absurd (apart n 6 late.known (lit< tt) (lit< tt) e))
            (λ e. absurd (not_fault end whole e));
        ends = ends.0;
      },
      ends.1,
    )
