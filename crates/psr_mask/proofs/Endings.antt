-- How a search without masked channels ends: at its words, before all data were sealed, or with its text.
use Rattle.std.proofs.Common.{◌≡◌, ◌≢◌, ◌⊎◌, ℕ, ◌≤◌, ◌<◌, Bool, false, List, [], ◌∷◌, ◌++◌, length, inl, inr, refl, sym, ap, ◌∙◌, subst, Some, None, Err, Contains, lit<, arith}
use Rattle.std.proofs.lemmas.List.Elements.{Contains-append_left, Contains-append_right}
use Rattle.std.specs.Prelude.{Option, IfSome, IsSome, ◌==◌}
use Rattle.dada_model.specs.Observation.{Observation}
use Rattle.psr_base.specs.Told.{Told, InputsSeen}
use Rattle.psr_base.specs.Written.{SinkSeen, WroteAll, WroteFront}
use Rattle.ring_ends.specs.declared.finished.Finished.{Finished}
use Rattle.search_model.specs.declared.candidate.Candidate.{Candidate}
use Rattle.search_model.specs.Search.{SettingsInRange}
use Rattle.search_model.specs.Masks.{masked_candidates_of, masked_text}
use Rattle.search_engine.specs.Engine.{HasFoundIn}
use Rattle.search_engine.specs.Scope.{Scope, kept_by}
use Rattle.channel_mask.specs.Masks.{mask_of}
use Rattle.channel_mask.specs.Masked.{IsScopeOf}
use Rattle.search_words.specs.declared.fault.WordFault.{WordFault}
use Rattle.search_words.specs.declared.fault.WordFault.TheVariants as words_fault
use Rattle.search_words.specs.Settings.{SettingsSeen}
use Rattle.stream_model.specs.Walk as walk
use Rattle.stream_model.specs.Walk.{FileStream, transfer_data, walk_stop}
use Rattle.disk_feeder.specs.Plan.{AreTold, AreToldAt, IsFirstFile}
use Rattle.run_outcome.specs.declared.stop.Stop.{Stop}
use Rattle.run_outcome.specs.declared.stop.Stop.TheVariants.{Plan, Recording, Memory, ReadFault, TooMany, SinkFault}
use Rattle.run_outcome.specs.Texts.{status_of}
use Rattle.run_outcome.specs.Conversions.{stop_of_words, stop_of_feed}
use Rattle.run_outcome.specs.Firsts.{first_name}
use Rattle.run_outcome.specs.Lone.{SayAlone}
use Rattle.run_outcome.specs.Outcomes.{BreaksFirsts}
use Rattle.run_outcome.specs.Runs.{Alone, CanBegin, OfEachFirst, first_observation, stream_for}
use Rattle.run_outcome.specs.Ends.{CountsFaults, StopsBefore, WordsSayOnce, short_statuses}
use Rattle.search_opening.specs.Plans.{IsOfPlan}
use Rattle.drive_lone.specs.declared.found.LoneFound.{LoneFound}
use Rattle.drive_lone.specs.declared.stop.LoneStop.{LoneStop}
use Rattle.drive_lone.specs.declared.stop.LoneStop.TheVariants.{Run, Unscoped}
use Rattle.drive_lone.specs.Found.{IsFoundAlone, HasFoundAll}
use Rattle.drive_lone.specs.Scopes.{SaysObservation}
use Rattle.drive_lone.specs.Stops.{BeginsWith, StopsAlone, FailsReading}
use Rattle.drive_lone.specs.Outcomes.{RunsAlone, EndsAlone}
use Rattle.drive_lone.specs.EndLaws.{AloneBeforeSession, AloneAtOwnStop, AloneAtFeedStop, AloneAfterWhole, GoesThrough}
use Rattle.psr_mask.specs.Masking.{ForMask, AcceptsMask, AcceptsMaskWord, RefusesMask, RefusesMaskWord, ScopesMask, mask_search, mask_word}
use Rattle.psr_mask.specs.Notes.{mask_status, end_status}
use Rattle.psr_mask.specs.Outcome.{Answered, HasMasked, HasText, Outcome, TellsMask, WritesMasked}
use Rattle.psr_mask.specs.Ends.{Ends, EndsFed, EndsKept, HoldsKept, IsSaidOf, as_alone}
use Rattle.psr_mask.specs.declared.refusal.MaskRefusal.{MaskRefusal}
use Rattle.psr_mask.proofs.Causes.{needed_told}
use Rattle.psr_mask.proofs.Statuses.{fault_is, from_each, statuses, whole_is}

-- the statuses of a search whose data were all sealed
abbrev late_statuses : List ℕ
late_statuses = 0 ∷ 9 ∷ 10 ∷ 12 ∷ []

none_written : (words : List (List ℕ)) (told : Told) (n : ℕ) (before after : SinkSeen) → n ≢ 0 → n ≢ 10 →
    after ≡ before → WritesMasked words told before after n
none_written words told n before after zeroth tenth same = record {
  text = λ e. absurd (zeroth e);
  front = λ e. absurd (tenth e);
  failed = λ e. absurd (tenth e);
  quiet = λ e. ap (λ (s : SinkSeen). s.faults) same;
  untouched = λ e f. same;
}

-- a plan that is refused, and no recording: a search alone makes none
plan_is : (words : List (List ℕ)) (told : Told) (s : SettingsSeen) (stop : Stop) →
    StopsBefore (Alone (mask_search words)) words told stop → status_of stop ≡ 4 →
    SayAlone (mask_search words) words s → IsOfPlan stop
plan_is words told s (Plan cause) b e says = (cause, refl)
plan_is words told s (Recording cause) b e says =
    let on = (b.says.0 s says).records in
    let off = says.search.one.unrecorded in absurd cc
plan_is words told s stop b e says = absurd (omega (arith, e))

-- the engine of a run that went through has searched the channels that the mask keeps
pub holds : (words : List (List ℕ)) (told : Told) (s0 : SettingsSeen) (found : LoneFound)
    (is : IsFoundAlone (ScopesMask (mask_word words)) s0 told found) → SettingsInRange s0.search →
    (all : HasFoundAll s0 told is.scope found) →
    HoldsKept found.observation s0.search (mask_of found.observation (mask_word words)) all.bytes found.engine
holds words told s0 found is range all = record {
  searches = record {
    bounds = all.searched.bounds;
    range = range;
    search_is = all.search_is;
    shard_is = all.shard_is;
    scope = subst
        (IsScopeOf found.observation s0.search.max_delay (mask_of found.observation (mask_word words)))
        (sym all.scope_is) is.scoped.kept;
  };
  found = subst (λ (c : Scope). HasFoundIn found.observation c all.bytes found.engine) (sym all.scope_is) all.searched;
}

module _ (words : List (List ℕ)) (inputs : InputsSeen) (is_calm : Type 0) where
  -- ---- before all data were sealed

  -- where the plan is refused, and once there is a data ring, the mask is accepted
  abbrev Accepts : Option Finished → ℕ → Type 0
  Accepts blocks n = (n ≡ 4) ⊎ IsSome blocks → AcceptsMaskWord words inputs.told

  accepts_early : (n : ℕ) → (n ≡ 4 → AcceptsMaskWord words inputs.told) → Accepts None n
  accepts_early n at_plan (inl four) = at_plan four
  accepts_early n at_plan (inr some) = absurd cc

  -- calm inputs that hold the first file fail where there is one
  abbrev Holds : Option Finished → ℕ → Type 0
  Holds blocks n = is_calm → (s : SettingsSeen) → SayAlone (mask_search words) words s →
      IsSome (inputs.told.bytes_under (first_name s.names s.starts 0)) → n ≡ 6 → IsSome blocks

  at_short : (blocks : Option Finished) (stop : Stop) (before after : SinkSeen) →
      EndsAlone mask_status (mask_search words) words inputs is_calm blocks stop → Accepts blocks (status_of stop) →
      Holds blocks (status_of stop) → after ≡ before → Ends words inputs is_calm before after (Some (Run stop)) blocks
  at_short blocks stop before after e accepted held same =
      let least = e.least in
      let most = e.most in
      record {
        answered = record {
          known = Contains-append_right (0 ∷ []) (short_statuses ++ 9 ∷ 10 ∷ 12 ∷ []) (status_of stop)
              (Contains-append_left short_statuses (9 ∷ 10 ∷ 12 ∷ []) (status_of stop) e.known);
          written = none_written words inputs.told (status_of stop) before after (λ is. omega (arith, is, least))
              (λ is. omega (arith, is, most)) same;
          run = e.run;
          mask = record { refused = λ is. absurd (omega (arith, is, most)); accepted = accepted };
          held = held;
          too_many = λ is. absurd (omega (arith, is, most));
        };
        said = e.said;
      }

  -- at the words
  pub at_words : (fault : WordFault) (stop : Stop) (out : SinkSeen) → stop ≡ stop_of_words fault →
      EndsAlone mask_status (mask_search words) words inputs is_calm None stop →
      Ends words inputs is_calm out out (Some (Run stop)) None
  at_words fault stop out is e =
      at_short None stop out out e
      (accepts_early (status_of stop) (λ four. absurd ((apart fault).0 (sym (ap status_of is) ∙ four))))
      (λ calm s says there six. absurd ((apart fault).1 (sym (ap status_of is) ∙ six))) refl
    where
      -- the plan was not refused, and the inputs did not fail
      apart : (f : WordFault) → (status_of (stop_of_words f) ≢ 4) × (status_of (stop_of_words f) ≢ 6)
      apart words_fault.Refused = ((λ e. omega (arith, e)), (λ e. omega (arith, e)))
      apart other = ((λ e. omega (arith, e)), (λ e. omega (arith, e)))

  -- ---- between the words and the session

  module _ (s0 : SettingsSeen) (says0 : SayAlone (mask_search words) words s0) where
    run_before : AloneBeforeSession is_calm → (stop : Stop) (out : SinkSeen) →
        StopsAlone (AcceptsMask (mask_word words)) (RefusesMask (mask_word words)) (mask_search words) words
        inputs.told (Run stop) → CountsFaults inputs is_calm s0.names (stop ≡ ReadFault) → (after : Told) →
        (stop ≡ ReadFault → BreaksFirsts (Alone (mask_search words)) words is_calm inputs.told after) →
        Ends words inputs is_calm out out (Some (Run stop)) None
    run_before law stop out stops read after broken =
        at_short None stop out out (law mask_status (mask_search words) words s0 inputs stop says0 stops.0 read)
        (accepts_early (status_of stop) (λ four. stops.1 (plan_is words inputs.told s0 stop stops.0 four says0)))
        held refl
      where
        held : Holds None (status_of stop)
        held calm s says there six =
            let b = broken (fault_is stop six) s says in
            let below = b.there in
            let one = says.search.one.transfer in
            let first : b.transfer ≡ 0 = omega (arith, below, one) in
            absurd (b.missing calm
            (subst (λ k. IsSome (inputs.told.bytes_under (first_name s.names s.starts k))) (sym first) there))

    own_before : AloneAtOwnStop is_calm → (refusal : MaskRefusal) (out : SinkSeen) →
        RefusesMaskWord words inputs.told refusal → CountsFaults inputs is_calm s0.names ⊥ →
        Ends words inputs is_calm out out (Some (Unscoped refusal)) None
    own_before law refusal out refused read = record {
      answered = record {
        known = (10, lit< tt, refl);
        written = none_written words inputs.told 12 out out (λ e. omega (arith, e)) (λ e. omega (arith, e)) refl;
        run = law mask_status (mask_search words) words s0 inputs (lit< tt) says0 read;
        mask = record {
          refused = λ e. (refl, refusal, refused);
          accepted = accepts_early 12 (λ four. absurd (omega (arith, four)));
        };
        held = λ calm s says there six. absurd (omega (arith, six));
        too_many = λ e. absurd (omega (arith, e));
      };
      said = refused;
    }

    pub before_session : AloneBeforeSession is_calm → AloneAtOwnStop is_calm → (stop : LoneStop MaskRefusal)
        (out : SinkSeen) →
        StopsAlone (AcceptsMask (mask_word words)) (RefusesMask (mask_word words)) (mask_search words) words
        inputs.told stop → CountsFaults inputs is_calm s0.names
        (FailsReading {F = MaskRefusal} (Err stop)) → (after : Told) →
        (FailsReading {F = MaskRefusal} (Err stop) →
        BreaksFirsts (Alone (mask_search words)) words is_calm inputs.told after) →
        Ends words inputs is_calm out out (Some stop) None
    before_session law own (Run stop) out stops read after broken = run_before law stop out stops read after broken
    before_session law own (Unscoped refusal) out stops read after broken = own_before own refusal out stops read

  -- ---- after the session

  module _ (once : WordsSayOnce) (s0 : SettingsSeen) (found : LoneFound)
      (is : IsFoundAlone (ScopesMask (mask_word words)) s0 inputs.told found)
      (through : GoesThrough (mask_search words) words s0 inputs is_calm found.blocks found.feed) where
    abbrev text : List ℕ
    text = mask_word words

    -- what holds of these settings holds of those that the words say
    of_said : (Q : SettingsSeen → Type 0) → Q s0 → (s : SettingsSeen) → SayAlone (mask_search words) words s → Q s
    of_said Q q s says = subst Q (once (Alone (mask_search words)) words s0 s through.says says) q

    for_settings : (P : SettingsSeen → FileStream → Type 0) →
        ((files : List (List ℕ)) → AreTold inputs.told s0.names files → P s0 (stream_for s0 files)) →
        ForMask words inputs.told P
    for_settings P holds s files says =
        of_said (λ t. (files : List (List ℕ)) → AreTold inputs.told t.names files → P t (stream_for t files)) holds s
        says files

    accepts : AcceptsMaskWord words inputs.told
    accepts = record {
      observation = found.observation;
      range = is.range;
      holds = is.scoped.accepted;
      first = (
        of_said (λ t. OfEachFirst inputs.told t (SaysObservation found.observation)) is.says,
        λ s files says. of_said (λ t. (files : List (List ℕ)) →
            AreToldAt (IsFirstFile t.starts (length t.names)) inputs.told t.names files →
            BeginsWith found.observation (stream_for t files)) (λ files are. record {
              walked = (through.fed.begun.1 s0 files through.says are).accepted;
              is = is.first files are;
            }) s says files,
      );
    }

    stopped : AloneAtFeedStop is_calm → (stop : Stop) (before after : SinkSeen) → stop_of_feed found.feed ≡ Some stop →
        after ≡ before → Ends words inputs is_calm before after (Some (Run stop)) (Some found.blocks)
    stopped law stop before after fed same = at_short (Some found.blocks) stop before after
        (law mask_status (mask_search words) words s0 inputs found.blocks found.feed stop through fed) (λ why. accepts)
        (λ calm s says there six. refl) same

    -- ---- with all data

    -- the mask of the observation that was searched
    abbrev mask : List Bool
    mask = mask_of found.observation text

    module _ (law : AloneAfterWhole is_calm) (whole : stop_of_feed found.feed ≡ None)
        (all : HasFoundAll s0 inputs.told is.scope found) where
      abbrev list_of : Observation → List ℕ → List Candidate
      list_of o bytes = masked_candidates_of o s0.search (kept_by (mask_of o text)) bytes

      abbrev text_of : Observation → List ℕ → List ℕ
      text_of o bytes = masked_text o s0.search (kept_by (mask_of o text)) bytes

      abbrev list : List Candidate
      list = list_of found.observation all.bytes

      abbrev lines : List ℕ
      lines = text_of found.observation all.bytes

      -- what holds of the data that were searched holds of those of the files
      of_files : (Q : Observation → List ℕ → Type 0) → Q found.observation all.bytes → (files : List (List ℕ)) →
          AreTold inputs.told s0.names files →
          let w = stream_for s0 files in Q (first_observation w 0) (transfer_data w 0)
      of_files Q q files are =
          let w = stream_for s0 files in
          subst (Q (first_observation w 0)) (all.known files are)
          (subst (λ o. Q o all.bytes) (sym (is.first files (needed_told _ _ _ are))) q)

      late : (n : ℕ) → Contains late_statuses n →
          RunsAlone mask_status (mask_search words) words inputs is_calm (Some found.blocks) n
          × ForMask words inputs.told (λ s w. CanBegin (Alone (mask_search words)) s w × (walk_stop w ≡ walk.Whole))
      late n known = law mask_status (mask_search words) words s0 inputs found.blocks found.feed n (lit< tt) through
          whole known

      -- how many candidates there are
      counts : (n : ℕ) → Contains late_statuses n → (P : SettingsSeen → ℕ → Type 0) → P s0 (length list) →
          ForMask words inputs.told (λ s w. HasMasked words s w (P s))
      counts n known P p =
          for_settings (λ s w. HasMasked words s w (P s)) (λ files are.
          let b = (late n known).1 s0 files through.says are in
          record {
            begins = b.0;
            whole = b.1;
            total = of_files (λ o bytes. P s0 (length (list_of o bytes))) p files are;
          })

      has_text : (n : ℕ) → Contains late_statuses n → (P : List ℕ → Type 0) →
          length list ≤ s0.search.max_candidates → P lines → ForMask words inputs.told (HasText words P)
      has_text n known P few p = for_settings (HasText words P) (λ files are. (
        counts n known (λ s total. total ≤ s.search.max_candidates) few s0 files through.says are,
        of_files (λ o bytes. P (text_of o bytes)) p files are,
      ))

      -- what each of their statuses says
      late_ends : (before after : SinkSeen) (stop : Option Stop) → let end = as_alone stop in
          Contains late_statuses (end_status end) → end_status end ≢ 12 →
          WritesMasked words inputs.told before after (end_status end) →
          (end_status end ≡ 9 →
          ForMask words inputs.told (λ s w. HasMasked words s w (λ total. s.search.max_candidates < total))) →
          IsSaidOf words inputs.told end → Ends words inputs is_calm before after end (Some found.blocks)
      late_ends before after stop at other written many said = record {
        answered = record {
          known = from_each (Contains statuses) late_statuses (end_status (as_alone stop)) at (0, lit< tt, refl)
              (8, lit< tt, refl) (9, lit< tt, refl) (10, lit< tt, refl);
          written = written;
          run = (late (end_status (as_alone stop)) at).0;
          mask = record { refused = λ e. absurd (other e); accepted = λ why. accepts };
          held = λ calm s says there six. refl;
          too_many = many;
        };
        said = said;
      }

      -- the whole text, or its front, or no text
      at_text : (before after : SinkSeen) (stop : Option Stop) → EndsKept s0.search list lines before after stop →
          Ends words inputs is_calm before after (as_alone stop) (Some found.blocks)
      at_text before after None (few, wrote) =
          let at : Contains late_statuses 0 = (0, lit< tt, refl) in
          late_ends before after None at (λ e. omega (arith, e)) (record {
            text = λ e. has_text 0 at (λ t. WroteAll t before after) few wrote;
            front = λ e. absurd (omega (arith, e));
            failed = λ e. absurd (omega (arith, e));
            quiet = λ e. wrote.faults;
            untouched = λ e. absurd (e refl);
          }) (λ e. absurd (omega (arith, e))) tt
      at_text before after (Some SinkFault) (few, wrote) =
          let at : Contains late_statuses 10 = (2, lit< tt, refl) in
          late_ends before after (Some SinkFault) at (λ e. omega (arith, e)) (record {
            text = λ e. absurd (omega (arith, e));
            front = λ e. has_text 10 at (λ t. WroteFront t before after) few wrote;
            failed = λ e. wrote.rose;
            quiet = λ e. absurd (e refl);
            untouched = λ e f. absurd (f refl);
          }) (λ e. absurd (omega (arith, e))) (tt, tt)
      at_text before after (Some (TooMany n limit)) (total, most, many, same) =
          let at : Contains late_statuses 9 = (1, lit< tt, refl) in
          late_ends before after (Some (TooMany n limit)) at (λ e. omega (arith, e))
          (none_written words inputs.told 9 before after (λ e. omega (arith, e)) (λ e. omega (arith, e)) same)
          (λ e. counts 9 at (λ s t. s.search.max_candidates < t) (omega (arith, total, most, many))) (
            tt,
            counts 9 at (λ s t. (t ≡ n) × (limit ≡ s.search.max_candidates) × (limit < n)) (total, most, many),
          )
      at_text before after stop e = absurd e

    pub after_session : AloneAtFeedStop is_calm → AloneAfterWhole is_calm → SettingsInRange s0.search →
        (before after : SinkSeen) (stop : Option Stop) →
        IfSome (stop_of_feed found.feed) (λ fed. (stop ≡ Some fed) × (after ≡ before)) →
        ((mask : List Bool) (bytes : List ℕ) → HoldsKept found.observation s0.search mask bytes found.engine →
        EndsFed (stop_of_feed found.feed) found.observation s0.search mask bytes before after stop) →
        (fed : Option Stop) → stop_of_feed found.feed ≡ fed →
        Ends words inputs is_calm before after (as_alone stop) (Some found.blocks)
    after_session stops wholes range before after stop fine ended (Some fed) same =
        let two = rw same at fine in rw two.0 (stopped stops fed before after same two.1)
    after_session stops wholes range before after stop fine ended None same =
        let w = whole_is found.feed same in
        let all = is.held w.0 w.1 in
        at_text wholes same all before after stop
        (rw same at (ended mask all.bytes (holds words inputs.told s0 found is range all)))

-- ---- want of memory

abbrev ring_statuses : List ℕ
ring_statuses = 0 ∷ 3 ∷ 6 ∷ 7 ∷ 8 ∷ 9 ∷ 10 ∷ 12 ∷ []

with_ring : Contains ring_statuses 5 → ⊥
with_ring there =
    let other = from_each (λ k. (k == 5) ≡ false) ring_statuses 5 there refl refl refl refl refl refl refl refl in cc

-- it comes before there is a data ring
pub memory_is_early : (words : List (List ℕ)) (inputs : InputsSeen) (is_calm : Type 0) (before after : SinkSeen)
    (stop : Option (LoneStop MaskRefusal)) (blocks : Finished) →
    Ends words inputs is_calm before after stop (Some blocks) → stop ≡ Some (Run Memory) → ⊥
memory_is_early words inputs is_calm before after stop blocks e is =
    with_ring (rw is at (e.answered.run.sealed.some refl))

-- an answer that is such a stop
pub answered_so : (words : List (List ℕ)) (inputs : InputsSeen) (is_calm : Type 0) (before after : SinkSeen)
    (stop : Option Stop) (result : Option (LoneStop MaskRefusal)) (blocks : Option Finished) → result ≡ as_alone stop →
    Ends words inputs is_calm before after (as_alone stop) blocks →
    Ends words inputs is_calm before after result blocks
answered_so words inputs is_calm before after stop result blocks is e = rw is e

-- ---- with the notes

pub outcome : (words : List (List ℕ)) (inputs : InputsSeen) (is_calm : Type 0)
    (out_before out_after notes_before notes_after : SinkSeen) (stop : Option (LoneStop MaskRefusal))
    (blocks : Option Finished) (status : ℕ) → Ends words inputs is_calm out_before out_after stop blocks →
    status ≡ end_status stop → TellsMask words inputs.told notes_before notes_after status →
    Outcome words inputs is_calm out_before out_after notes_before notes_after
    (record { status = status; blocks = blocks; recorded = None })
outcome words inputs is_calm out_before out_after notes_before notes_after stop blocks status e is noted = record {
  answered = subst (λ n. Answered words inputs is_calm out_before out_after blocks n) (sym is) e.answered;
  unrecorded = refl;
  noted = noted;
}
