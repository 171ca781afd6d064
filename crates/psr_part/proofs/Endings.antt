-- How the search of a part ends: at its words or its checkpoint, before all data were sealed, or with its text.
use Rattle.std.proofs.Common.{◌≡◌, ◌≢◌, ℕ, ◌≤◌, ◌<◌, Bool, true, false, List, [], ◌∷◌, ◌++◌, refl, sym, ap, ◌∙◌, subst, Some, None, Contains, lit<, arith}
use Rattle.std.proofs.lemmas.List.Elements.{Contains-append_left, Contains-append_right}
use Rattle.std.specs.Prelude.{Option, IfSome, Err, nat_le, ◌==◌, ◌&&◌, ◌||◌}
use Rattle.std.specs.Option.{ForSome}
use Rattle.dada_model.specs.Observation.{Observation}
use Rattle.psr_base.specs.Told.{Told, InputsSeen}
use Rattle.psr_base.specs.Written.{SinkSeen, WroteAll, WroteFront}
use Rattle.ring_ends.specs.declared.finished.Finished.{Finished}
use Rattle.search_words.specs.declared.fault.WordFault.{WordFault}
use Rattle.search_words.specs.declared.fault.WordFault.TheVariants as word
use Rattle.search_words.specs.Settings.{SettingsSeen}
use Rattle.stream_model.specs.Walk as walk
use Rattle.stream_model.specs.Walk.{FileStream, transfer_data, walk_stop}
use Rattle.disk_feeder.specs.declared.answers.FeedEnd.{FeedEnd}
use Rattle.disk_feeder.specs.declared.answers.FeedEnd.TheVariants as feed
use Rattle.disk_feeder.specs.Filling.{HoldsAll}
use Rattle.disk_feeder.specs.Plan.{AreTold}
use Rattle.warm_restart.specs.declared.checkpoint.Checkpoint.{Checkpoint}
use Rattle.warm_restart.specs.declared.checkpoint.CheckpointFault.{CheckpointFault}
use Rattle.warm_restart.specs.declared.checkpoint.CheckpointFault.TheVariants as check
use Rattle.warm_restart.specs.Checkpoint.{IsJudged}
use Rattle.warm_restart.specs.Warm.{text_of_part}
use Rattle.run_outcome.specs.declared.stop.Stop.{Stop}
use Rattle.run_outcome.specs.declared.stop.Stop.TheVariants.{Memory, ReadFault, TooMany, SinkFault}
use Rattle.run_outcome.specs.Texts.{status_of}
use Rattle.run_outcome.specs.Conversions.{stop_of_words, stop_of_feed}
use Rattle.run_outcome.specs.Lone.{SayAlone, ExplainsAlone}
use Rattle.run_outcome.specs.Runs.{stream_for, first_observation, CanBegin, FindsAlone, IsTooMany}
use Rattle.run_outcome.specs.Ends.{short_statuses, CountsFaults, WordsSayOnce}
use Rattle.drive_lone.specs.Outcomes.{RunsAlone, EndsAlone}
use Rattle.drive_lone.specs.EndLaws.{AloneAtWords, AloneBeforeSession, AloneAtOwnStop, AloneAtFeedStop, AloneAfterWhole, GoesThrough}
use Rattle.psr_part.specs.declared.stop.CheckpointRefusal.{CheckpointRefusal}
use Rattle.psr_part.specs.declared.stop.CheckpointRefusal.TheVariants.{Form, Place, Beyond}
use Rattle.psr_part.specs.declared.stop.PartStop.{PartStop}
use Rattle.psr_part.specs.declared.stop.PartStop.TheVariants.{Run, Refused}
use Rattle.psr_part.specs.Texts.{stop_of_checkpoint, end_status, statuses}
use Rattle.psr_part.specs.Part.{until_in, check_names, check_text_of, GoesOnFrom, spectra_in, part_search, searching, ForPart}
use Rattle.psr_part.specs.Outcome.{WritesPart, IsCrowded, HasText, IsRefused, TellsPart, later_statuses, Outcome}
use Rattle.psr_part.specs.Ends.{spectra_of, count_of, FitsPart, EndsText, EndsFed, IsPartSaid, Ends}
use Rattle.psr_part.proofs.Statuses.{from_each}

-- ---- statuses

-- those of a search whose data were all sealed
abbrev late_statuses : List ℕ
late_statuses = 0 ∷ 9 ∷ 10 ∷ 13 ∷ []

-- whether a status comes after the checkpoint is accepted
abbrev is_later : ℕ → Bool
is_later k = k == 0 || k == 3 || k == 4 || (nat_le 7 k && nat_le k 10)

not_later : (n : ℕ) → is_later n ≡ false → ¬ Contains later_statuses n
not_later n is there =
    let later = from_each (λ k. is_later k ≡ true) later_statuses n there refl refl refl refl refl refl refl in cc

-- words that are refused stop a search before its checkpoint, and are no fault of the inputs
word_apart : (f : WordFault) →
    ¬ Contains later_statuses (status_of (stop_of_words f)) × (status_of (stop_of_words f) ≢ 6)
word_apart word.Refused = (not_later 2 refl, (λ six. omega (arith, six)))
word_apart (word.OutOfRange opt) = (not_later 2 refl, (λ six. omega (arith, six)))
word_apart word.Memory = (not_later 5 refl, (λ six. omega (arith, six)))

-- where none is accepted, any one serves
no_checkpoint : Checkpoint
no_checkpoint = record { place = 0; pulses = 0 }

-- ---- parts of the outcome

none_written : (words : List (List ℕ)) (from : Checkpoint) (told : Told) (n : ℕ) (before after : SinkSeen) → n ≢ 0 →
    n ≢ 10 → after ≡ before → WritesPart words from told before after n
none_written words from told n before after zeroth tenth same = record {
  text = λ e. absurd (zeroth e);
  front = λ e. absurd (tenth e);
  failed = λ e. absurd (tenth e);
  quiet = λ e. ap (λ (s : SinkSeen). s.faults) same;
  untouched = λ e f. same;
}

module _ (words : List (List ℕ)) (inputs : InputsSeen) (is_calm : Type 0) where
  -- calm inputs that hold CHECK
  abbrev Calm : Type 0
  Calm = is_calm × HoldsAll inputs.told (check_names words)

  -- ---- before all data were sealed

  pub at_stop : (from : Checkpoint) (blocks : Option Finished) (stop : Stop) (before after : SinkSeen) →
      EndsAlone 13 (part_search words from) words inputs Calm blocks stop →
      (Contains later_statuses (status_of stop) → GoesOnFrom inputs.told words from) →
      (is_calm → HoldsAll inputs.told (check_names words) → status_of stop ≡ 6 → GoesOnFrom inputs.told words from) →
      after ≡ before → Ends words inputs is_calm before after (Some (Run stop)) blocks
  at_stop from blocks stop before after e accepted held same =
      let least = e.least in
      let most = e.most in
      record {
        from = from;
        accepted = accepted;
        held = held;
        known = Contains-append_right (0 ∷ []) (short_statuses ++ 9 ∷ 10 ∷ 13 ∷ []) (status_of stop)
            (Contains-append_left short_statuses (9 ∷ 10 ∷ 13 ∷ []) (status_of stop) e.known);
        written = none_written words from inputs.told (status_of stop) before after (λ is. omega (arith, is, least))
            (λ is. omega (arith, is, most)) same;
        run = e.run;
        too_many = λ is. absurd (omega (arith, is, most));
        said = e.said;
      }

  pub at_words : AloneAtWords Calm → (fault : WordFault) (stop : Stop) →
      ((from : Checkpoint) → ExplainsAlone (part_search words from) words fault) → stop ≡ stop_of_words fault →
      inputs.faults_after ≡ inputs.faults_before → (out : SinkSeen) →
      Ends words inputs is_calm out out (Some (Run stop)) None
  at_words law fault stop explains is same out =
      at_stop no_checkpoint None stop out out
      (law 13 (part_search words no_checkpoint) words inputs fault stop (explains no_checkpoint) is same)
      (λ later. absurd ((word_apart fault).0 (subst (λ (x : Stop). Contains later_statuses (status_of x)) is later)))
      (λ calm check six. absurd ((word_apart fault).1 (sym (ap status_of is) ∙ six))) refl

  -- the checkpoint is refused
  at_refusal : (from : Checkpoint) (blocks : Option Finished) (refusal : CheckpointRefusal) (before after : SinkSeen) →
      RunsAlone 13 (part_search words from) words inputs Calm blocks 13 →
      IsRefused words from inputs.told blocks refusal → after ≡ before →
      Ends words inputs is_calm before after (Some (Refused refusal)) blocks
  at_refusal from blocks refusal before after run refused same = record {
    from = from;
    accepted = λ later. absurd (not_later 13 refl later);
    held = λ calm check six. absurd (omega (arith, six));
    known = (10, lit< tt, refl);
    written = none_written words from inputs.told 13 before after (λ is. omega (arith, is)) (λ is. omega (arith, is))
        same;
    run = run;
    too_many = λ is. absurd (omega (arith, is));
    said = refused;
  }

  -- what CHECK was judged by where no checkpoint was read
  pub at_checkpoint : AloneBeforeSession Calm → AloneAtOwnStop Calm → (s : SettingsSeen) (until : ℕ) →
      until ≡ until_in words → ((from : Checkpoint) → SayAlone (part_search words from) words s) →
      (fault : CheckpointFault) → (fault ≡ check.Failed → CountsFaults inputs Calm s.names (ReadFault ≡ ReadFault)) →
      (fault ≡ check.Failed → is_calm → HoldsAll inputs.told (check_names words) → ⊥) →
      (fault ≢ check.Failed → CountsFaults inputs Calm s.names ⊥) →
      (fault ≢ check.Failed → ForSome (check_text_of inputs.told words) (λ text. IsJudged text until (Err fault))) →
      ((place limit : ℕ) → fault ≡ check.Place place limit → (until ≡ limit) × (until ≤ place)) →
      (stop : PartStop) → stop ≡ stop_of_checkpoint fault → (out : SinkSeen) →
      Ends words inputs is_calm out out (Some stop) None
  at_checkpoint before own s until same says check.Failed failed held quiet judged late stop is out =
      let lone = part_search words no_checkpoint in
      rw is (at_stop no_checkpoint None ReadFault out out
      (before 13 lone words s inputs ReadFault (says no_checkpoint)
      (record { kind = tt; says = tt }) (failed refl))
      (λ later. absurd (not_later 6 refl later)) (λ calm check six. absurd (held refl calm check)) refl)
  at_checkpoint before own s until same says check.Form failed held quiet judged late stop is out =
      let lone = part_search words no_checkpoint in
      rw is (at_refusal no_checkpoint None Form out out
      (own 13 lone words s inputs (omega arith) (says no_checkpoint) (quiet (λ e. absurd cc)))
      (refl, (λ text told. (judged (λ e. absurd cc) text told).form.0 refl)) refl)
  at_checkpoint before own s until same says (check.Place place limit) failed held quiet judged late stop is out =
      let lone = part_search words no_checkpoint in
      let other : check.Place place limit ≢ check.Failed = λ e. absurd cc in
      rw is (at_refusal no_checkpoint None (Place place limit) out out
      (own 13 lone words s inputs (omega arith) (says no_checkpoint) (quiet other)) (
        refl,
        sym (late place limit refl).0 ∙ same,
        (let l = late place limit refl in let first = l.0 in let second = l.1 in omega (arith, first, second)),
        (λ text told. let h = ((judged other text told).place place limit).0 refl in (h.0, h.1, h.2)),
      ) refl)

  -- ---- after the session

  module _ (from : Checkpoint) (once : WordsSayOnce) (s0 : SettingsSeen) (blocks : Finished) (end : FeedEnd)
      (through : GoesThrough (part_search words from) words s0 inputs Calm blocks end)
      (goes : GoesOnFrom inputs.told words from) where
    -- ---- with all data

    module _ (law : AloneAfterWhole Calm) (whole : stop_of_feed end ≡ None) (o : Observation) (bytes : List ℕ)
        (known : (files : List (List ℕ)) → AreTold inputs.told s0.names files →
        (o ≡ first_observation (stream_for s0 files) 0) × (bytes ≡ transfer_data (stream_for s0 files) 0)) where
      late : (n : ℕ) → Contains late_statuses n →
          RunsAlone 13 (part_search words from) words inputs Calm (Some blocks) n
          × ForPart words from inputs.told (λ s w. CanBegin (searching words from) s w × (walk_stop w ≡ walk.Whole))
      late n at = law 13 (part_search words from) words s0 inputs blocks end n (omega arith) through whole at

      -- what holds of the data that were searched holds of those of the files
      of_data : (n : ℕ) → Contains late_statuses n → (Q : Observation → List ℕ → Type 0) → Q o bytes →
          (P : SettingsSeen → FileStream → Type 0) →
          ((w : FileStream) → CanBegin (searching words from) s0 w → walk_stop w ≡ walk.Whole →
          Q (first_observation w 0) (transfer_data w 0) → P s0 w) → ForPart words from inputs.told P
      of_data n at Q q P holds s files says =
          let Holds : SettingsSeen → Type 0 = λ t. (files : List (List ℕ)) → AreTold inputs.told t.names files →
          P t (stream_for t files) in
          subst Holds (once (searching words from) words s0 s through.says says) (λ files are.
          let w = stream_for s0 files in
          let k = known files are in
          let b = (late n at).1 s0 files through.says are in
          holds w b.0 b.1 (subst (Q (first_observation w 0)) k.1 (subst (λ x. Q x bytes) k.0 q))) files

      text_of : (n : ℕ) → Contains late_statuses n → (P : List ℕ → Type 0) →
          FitsPart o s0.search from (until_in words) bytes → P (text_of_part o s0.search from (until_in words) bytes) →
          ForPart words from inputs.told (HasText words from P)
      text_of n at P fits p =
          of_data n at (λ x b. FitsPart x s0.search from (until_in words) b
          × P (text_of_part x s0.search from (until_in words) b)) (fits, p) (HasText words from P)
          (λ w begins ends q. (
            record { finds = record { begins = begins; whole = ends; total = q.0.1 }; within = q.0.0 },
            q.1,
          ))

      -- what each of their statuses says
      late_ends : (before after : SinkSeen) (stop : Option PartStop) → Contains late_statuses (end_status stop) →
          WritesPart words from inputs.told before after (end_status stop) →
          (end_status stop ≡ 9 → ForPart words from inputs.told (IsCrowded words from)) →
          IsPartSaid words from inputs.told (Some blocks) stop →
          Ends words inputs is_calm before after stop (Some blocks)
      late_ends before after stop at written many said = record {
        from = from;
        accepted = λ later. goes;
        held = λ calm check six. goes;
        known = from_each (Contains statuses) late_statuses (end_status stop) at (0, lit< tt, refl) (8, lit< tt, refl)
            (9, lit< tt, refl) (10, lit< tt, refl);
        written = written;
        run = (late (end_status stop) at).0;
        too_many = many;
        said = said;
      }

      -- the whole text, or its front, or no text
      at_text : (before after : SinkSeen) (stop : Option PartStop) →
          EndsText o s0.search from (until_in words) bytes before after stop →
          Ends words inputs is_calm before after stop (Some blocks)
      at_text before after None (fits, wrote) =
          let at : Contains late_statuses 0 = (0, lit< tt, refl) in
          late_ends before after None at (record {
            text = λ e. text_of 0 at (λ text. WroteAll text before after) fits wrote;
            front = λ e. absurd (omega (arith, e));
            failed = λ e. absurd (omega (arith, e));
            quiet = λ e. wrote.faults;
            untouched = λ e. absurd (e refl);
          }) (λ e. absurd (omega (arith, e))) tt
      at_text before after (Some (Run SinkFault)) (fits, wrote) =
          let at : Contains late_statuses 10 = (2, lit< tt, refl) in
          late_ends before after (Some (Run SinkFault)) at (record {
            text = λ e. absurd (omega (arith, e));
            front = λ e. text_of 10 at (λ text. WroteFront text before after) fits wrote;
            failed = λ e. wrote.rose;
            quiet = λ e. absurd (e refl);
            untouched = λ e f. absurd (f refl);
          }) (λ e. absurd (omega (arith, e))) (tt, tt)
      at_text before after (Some (Run (TooMany count limit))) (within, total, most, many, same) =
          let at : Contains late_statuses 9 = (1, lit< tt, refl) in
          let more : s0.search.max_candidates < count_of o s0.search from (until_in words) bytes =
          omega (arith, total, most, many) in
          late_ends before after (Some (Run (TooMany count limit))) at
          (none_written words from inputs.told 9 before after (λ e. omega (arith, e)) (λ e. omega (arith, e)) same)
          (λ e. of_data 9 at (λ x b. (from.place ≤ spectra_of x b)
          × (s0.search.max_candidates < count_of x s0.search from (until_in words) b)) (within, more)
          (IsCrowded words from) (λ w begins ends q. record {
            finds = record { begins = begins; whole = ends; total = q.1 };
            within = q.0;
          })) (
            tt,
            of_data 9 at (λ x b. (count_of x s0.search from (until_in words) b ≡ count)
                × (limit ≡ s0.search.max_candidates) × (limit < count)) (total, most, many)
                (λ s w. FindsAlone (part_search words from) s w (IsTooMany s count limit))
                (λ w begins ends q. record { begins = begins; whole = ends; total = q }),
          )
      at_text before after (Some (Refused (Beyond place spectra))) (at_place, has, less, same) =
          let at : Contains late_statuses 13 = (3, lit< tt, refl) in
          at_refusal from (Some blocks) (Beyond place spectra) before after (late 13 at).0 (
            refl,
            at_place,
            less,
            goes,
            of_data 13 at (λ x b. spectra ≡ spectra_of x b) has
                (λ s w. FindsAlone (part_search words from) s w (λ total. spectra ≡ spectra_in w))
                (λ w begins ends q. record { begins = begins; whole = ends; total = q }),
          ) same
      at_text before after stop e = absurd e

    -- all data were sealed where the feeder has no stop
    whole_is : (e : FeedEnd) → stop_of_feed e ≡ None → (count : ℕ) × (e ≡ feed.Whole count)
    whole_is (feed.Whole count) is = (count, refl)
    whole_is e is = absurd cc

    -- what is known once all data were sealed
    pub record IsFound (before after : SinkSeen) (stop : Option PartStop) : Type 0 where
      pub observation : Observation
      pub bytes : List ℕ
      pub known : (files : List (List ℕ)) → AreTold inputs.told s0.names files →
          (observation ≡ first_observation (stream_for s0 files) 0)
          × (bytes ≡ transfer_data (stream_for s0 files) 0)
      pub ended : EndsFed (stop_of_feed end) observation s0.search from (until_in words) bytes before after stop

    pub after_session : AloneAtFeedStop Calm → AloneAfterWhole Calm → (before after : SinkSeen)
        (stop : Option PartStop) →
        IfSome (stop_of_feed end) (λ fed. (stop ≡ Some (Run fed)) × (after ≡ before)) →
        ((count : ℕ) → end ≡ feed.Whole count → IsFound before after stop) → (fed : Option Stop) →
        stop_of_feed end ≡ fed → Ends words inputs is_calm before after stop (Some blocks)
    after_session stops wholes before after stop stopped found (Some fed) is =
        let e = stops 13 (part_search words from) words s0 inputs blocks end fed through is in
        let two = rw is at stopped in
        rw two.0 (at_stop from (Some blocks) fed before after e (λ later. goes) (λ calm check six. goes) two.1)
    after_session stops wholes before after stop stopped found None is =
        let w = whole_is end is in
        let f = found w.0 w.1 in
        at_text wholes is f.observation f.bytes f.known before after stop (rw is at f.ended)

-- ---- with the notes

pub outcome : (words : List (List ℕ)) (inputs : InputsSeen) (is_calm : Type 0)
    (out_before out_after notes_before notes_after : SinkSeen) (stop : Option PartStop) (blocks : Option Finished)
    (status : ℕ) → Ends words inputs is_calm out_before out_after stop blocks → status ≡ end_status stop →
    ((from : Checkpoint) → IsPartSaid words from inputs.told blocks stop →
    TellsPart words from inputs.told blocks notes_before notes_after status) →
    Outcome words inputs is_calm out_before out_after notes_before notes_after
    (record { status = status; blocks = blocks; recorded = None })
outcome words inputs is_calm out_before out_after notes_before notes_after stop blocks status e is noted =
    rw is (record {
      from = e.from;
      accepted = e.accepted;
      held = e.held;
      known = e.known;
      written = e.written;
      run = e.run;
      too_many = e.too_many;
      unrecorded = refl;
      noted = rw is at (noted e.from e.said);
    })
