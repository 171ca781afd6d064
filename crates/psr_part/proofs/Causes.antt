-- From what stands against the search of a part to its status, by the laws of how a run ends.
use Rattle.std.proofs.Common.{◌≡◌, ◌≢◌, ◌<◌, ◌≤◌, ◌⊎◌, ℕ, zero, suc, List, [], ◌∷◌, Bool, inl, inr, true, false, sym, ◌∙◌, ap, subst, refl, Some, Contains, lit<, arith}
use Rattle.std.specs.Prelude.{Option, IsSome, length, if◌then◌else◌}
use Rattle.std.specs.Str.{bytes_eq}
use Rattle.psr_base.specs.Count.{Rose}
use Rattle.psr_base.specs.Told.{Told}
use Rattle.search_model.specs.Parts.{check_line}
use Rattle.ring_ends.specs.declared.finished.Finished.{Finished}
use Rattle.search_words.specs.Settings.{SettingsSeen}
use Rattle.stream_model.specs.Walk as walk
use Rattle.stream_model.specs.Walk.{FileStream, WalkStop, walk_stop}
use Rattle.disk_feeder.specs.Plan.{AreTold, AreToldAt}
use Rattle.disk_feeder.specs.Filling.{HoldsAll}
use Rattle.disk_feeder.specs.Reading.{StopsAtFile}
use Rattle.disk_feeder.specs.declared.answers.HeaderCause.{HeaderCause}
use Rattle.disk_feeder.specs.declared.answers.HeaderCause.TheVariants.{Text, Fields}
use Rattle.warm_restart.specs.declared.checkpoint.Checkpoint.{Checkpoint}
use Rattle.warm_restart.specs.Checkpoint.{IsCheckpointText, IsNoCheckpointText}
use Rattle.warm_restart.specs.Laws.{TextsSayOne}
use Rattle.warm_restart.specs.Named.{new_word}
use Rattle.run_outcome.specs.declared.causes.PlanCause.{PlanCause}
use Rattle.run_outcome.specs.declared.stop.Stop.{Stop}
use Rattle.run_outcome.specs.declared.stop.Stop.TheVariants.{Header, Plan}
use Rattle.run_outcome.specs.Texts.{status_of}
use Rattle.run_outcome.specs.Lone.{SayAlone}
use Rattle.run_outcome.specs.Runs.{Task, stream_for, stop_of_walk, CanBegin, RefusesFirstHeader, RefusesSearch, StopsWalk, FindsAlone}
use Rattle.run_outcome.specs.Outcomes.{ReadsInputs}
use Rattle.run_outcome.specs.Ends.{ForRuns, EndsSo, AcceptedGoesOn, AcceptedIsNotRefused, TextsAreAnswered, FirstsAreAnswered, StopsAreAnswered}
use Rattle.psr_part.specs.declared.stop.CheckpointRefusal.{CheckpointRefusal}
use Rattle.psr_part.specs.declared.stop.CheckpointRefusal.TheVariants.{Form, Place, Beyond}
use Rattle.psr_part.specs.Texts.{statuses}
use Rattle.psr_part.specs.Part.{until_in, check_word, check_names, check_text_of, GoesOnFrom, spectra_in, text_in_part, part_search, searching}
use Rattle.psr_part.specs.Outcome.{IsSearched, IsCrowded, IsRefused}
use Rattle.psr_part.specs.Causes.{PartSeen, IsOutcome, IsQuiet, Answers, EachIsAnswered, CausesAreAnswered, AcceptedIsSearched, ToldRoomIsEnough}
use Rattle.psr_part.proofs.Moved.{says_any, needed_told}
use Rattle.psr_part.proofs.Statuses.{from_each, left, sealed_by_run}

-- the file of CHECK is held
holds_named : (is_new : Bool) (word bytes : List ℕ) (told : Told) →
    (if is_new then Some (check_line 0 0) else told.bytes_under word) ≡ Some bytes →
    HoldsAll told (if is_new then [] else word ∷ [])
holds_named true word bytes told e k below = absurd (omega (arith, below))
holds_named false word bytes told e zero below = subst IsSome (sym e) refl
holds_named false word bytes told e (suc k) below = absurd (omega (arith, below))

-- CHECK is told
holds_check : (told : Told) (words : List (List ℕ)) (bytes : List ℕ) → check_text_of told words ≡ Some bytes →
    HoldsAll told (check_names words)
holds_check told words bytes e =
    holds_named (bytes_eq (check_word words) new_word) (check_word words) bytes told e

-- a text says one checkpoint
pub one_said : TextsSayOne → (text : List ℕ) (c d : Checkpoint) → IsCheckpointText text c →
    IsCheckpointText text d → c ≡ d
one_said law text c d is is' = let e = sym ((law.computed text c).0 is) ∙ (law.computed text d).0 is' in cc

-- it is the status of this stop, or there was no memory
answers : (n : ℕ) (stop : Stop) → EndsSo stop n → Answers n (status_of stop)
answers n stop (zero, below, is) = inl (sym is)
answers n stop (suc zero, below, is) = inr (sym is)
answers n stop (suc (suc k), below, is) = absurd (omega (arith, below))

-- a walk that stops is not whole, and does so at some file
stops_at : (limit : ℕ) (at : WalkStop) (stop : Stop) → stop_of_walk limit at ≡ Some stop →
    (at ≢ walk.Whole) × (file : ℕ) × StopsAtFile at file
stops_at limit walk.Whole stop is = absurd cc
stops_at limit (walk.BadText file refusal) stop is = ((λ e. cc), file, refl)
stops_at limit (walk.BadFields file fault) stop is = ((λ e. cc), file, refl)
stops_at limit (walk.Gap file expected found) stop is = ((λ e. cc), file, refl)
stops_at limit (walk.TooLong file) stop is = ((λ e. cc), file, refl)

-- ---- where no part goes on from the text of CHECK: nothing is said of other files

module _ (words : List (List ℕ)) (is_calm : Type 0) (seen : PartSeen) (o : IsOutcome words is_calm seen)
    (any : Checkpoint) (s : SettingsSeen) (says_any_one : SayAlone (part_search words any) words s)
    (bytes : List ℕ) (named : check_text_of seen.inputs.told words ≡ Some bytes) (quiet : IsQuiet is_calm seen) where
  refused : (GoesOnFrom seen.inputs.told words o.from → ⊥) → Answers seen.ran.status 13
  refused never = from_each (λ k. seen.ran.status ≡ k → Answers seen.ran.status 13) statuses seen.ran.status o.known
      (λ e. absurd (never (o.accepted (0, lit< tt, sym e))))
      (λ e. absurd (o.run.judged.refused e s (says_any words any o.from s says_any_one)))
      (λ e. absurd (never (o.accepted (1, lit< tt, sym e))))
      (λ e. absurd (never (o.accepted (2, lit< tt, sym e))))
      (λ e. inr e)
      (λ e. absurd (no_fault quiet e))
      (λ e. absurd (never (o.accepted (3, lit< tt, sym e))))
      (λ e. absurd (never (o.accepted (4, lit< tt, sym e))))
      (λ e. absurd (never (o.accepted (5, lit< tt, sym e))))
      (λ e. absurd (never (o.accepted (6, lit< tt, sym e))))
      (λ e. inl e)
      refl
    where
      no_fault : IsQuiet is_calm seen → seen.ran.status ≡ 6 → ⊥
      no_fault (inl is) e = never (o.held is (holds_check seen.inputs.told words bytes named) e)
      no_fault (inr still) e = still (o.run.read.failed e)

  pub no_text : IsNoCheckpointText bytes → Answers seen.ran.status 13
  no_text none = refused (λ goes. none o.from (goes.text bytes named))

  pub no_place : TextsSayOne → (c : Checkpoint) → IsCheckpointText bytes c → until_in words ≤ c.place →
      Answers seen.ran.status 13
  no_place law c is late = refused (λ goes.
      let same : o.from.place ≡ c.place =
      ap (λ (k : Checkpoint). k.place) (one_said law bytes o.from c (goes.text bytes named) is) in
      let before = goes.before in
      omega (arith, late, same, before))

-- ---- an outcome over files and a text of CHECK that are told

module _ (words : List (List ℕ)) (is_calm : Type 0) (seen : PartSeen) (o : IsOutcome words is_calm seen)
    (any : Checkpoint) (s : SettingsSeen) (files : List (List ℕ))
    (says_any_one : SayAlone (part_search words any) words s) (are : AreTold seen.inputs.told s.names files)
    (bytes : List ℕ) (named : check_text_of seen.inputs.told words ≡ Some bytes) where
  abbrev w : FileStream
  w = stream_for s files

  abbrev n : ℕ
  n = seen.ran.status

  says : SayAlone (part_search words o.from) words s
  says = says_any words any o.from s says_any_one

  -- those that a status needs are told, as all are
  needed : {Needed : ℕ → Type 0} → AreToldAt Needed seen.inputs.told s.names files
  needed = needed_told seen.inputs.told s.names files are

  not_six : IsQuiet is_calm seen → n ≡ 6 → ⊥
  not_six (inl is) e =
      o.run.read.serves (is, holds_check seen.inputs.told words bytes named) s says
      (λ k below. rw (are.each k below) refl) e
  not_six (inr still) e = still (o.run.read.failed e)

  -- ---- where a part goes on from this checkpoint

  module _ (law : TextsSayOne) (from : Checkpoint) (text : IsCheckpointText bytes from)
      (before : from.place < until_in words) where
    same_from : GoesOnFrom seen.inputs.told words o.from → o.from ≡ from
    same_from goes = one_said law bytes o.from from (goes.text bytes named) text

    -- all data were read, with so few pulses
    pub searched_at : (n ≡ 0) ⊎ (n ≡ 10) → IsSearched words from s w
    searched_at (inl e) = rw (same_from (o.accepted (0, lit< tt, sym e))) at (o.written.text e s files says are).0
    searched_at (inr e) = rw (same_from (o.accepted (6, lit< tt, sym e))) at (o.written.front e s files says are).0

    -- and with too many
    pub crowded_at : n ≡ 9 → IsCrowded words from s w
    crowded_at e = rw (same_from (o.accepted (5, lit< tt, sym e))) at (o.too_many e s files says are)

    -- the place is behind all of them
    behind_by : (refusal : CheckpointRefusal) → IsRefused words o.from seen.inputs.told seen.ran.blocks refusal →
        FindsAlone (part_search words from) s w (λ total. spectra_in w < from.place)
    behind_by Form (before_data, unsaid) = absurd (unsaid bytes named from text)
    behind_by (Place place until) (before_data, at, late, is) =
        let (c, said, same) = is bytes named in
        let one : c.place ≡ from.place = ap (λ (k : Checkpoint). k.place) (one_said law bytes c from said text) in
        absurd (omega (arith, at, late, same, one, before))
    behind_by (Beyond place spectra) (after_data, at, less, goes, finds) =
        let f = finds s files says are in
        let one : o.from.place ≡ from.place = ap (λ (k : Checkpoint). k.place) (same_from goes) in
        let has = f.total in
        let b = f.begins in
        record {
          begins = record { accepted = b.accepted; searched = b.searched; recorded = b.recorded };
          whole = f.whole;
          total = omega (arith, at, less, one, has);
        }

    pub behind_at : n ≡ 13 → FindsAlone (part_search words from) s w (λ total. spectra_in w < from.place)
    behind_at e = let r = o.noted.refused e in behind_by r.refusal r.cause

    -- ---- a law of runs, of this one

    reads : ReadsInputs (searching words o.from) words seen.inputs is_calm n
    reads = record {
      failed = o.run.read.failed;
      quiet = o.run.read.quiet;
      count = o.run.read.count;
      serves = λ calm. o.run.read.serves (calm, holds_check seen.inputs.told words bytes named);
    }

    begins : CanBegin (searching words from) s w → CanBegin (searching words o.from) s w
    begins b = record { accepted = b.accepted; searched = b.searched; recorded = b.recorded }

    module _ (quiet : IsQuiet is_calm seen) where
      -- at any other status than that of a checkpoint
      of_run : (Q : Task → List (List ℕ) → Told → Option Finished → ℕ → Type 0) → ForRuns is_calm Q → n ≢ 13 →
          Q (searching words o.from) words seen.inputs.told seen.ran.blocks n
      of_run Q runs other =
          runs (searching words o.from) words seen.inputs seen.inputs.told seen.ran.blocks n o.run.judged reads
          o.run.stopped
          (sealed_by_run 13 (part_search words o.from) words seen.inputs.told seen.ran.blocks n other o.run.sealed)
          (λ six. absurd (not_six quiet six)) quiet

      -- all data are read
      none_stopped : AcceptedGoesOn is_calm → CanBegin (searching words from) s w → walk_stop w ≡ walk.Whole →
          ¬ Contains (2 ∷ 3 ∷ 4 ∷ 6 ∷ 7 ∷ 8 ∷ []) n
      none_stopped goes_on b whole =
          goes_on (searching words o.from) words seen.inputs seen.ran.blocks n o.run.judged reads o.run.stopped s files
          says are (begins b) whole quiet

      pub accepted : AcceptedGoesOn is_calm → IsSearched words from s w →
          ¬ Rose seen.out_before.faults seen.out_after.faults → Answers n 0
      accepted goes_on searched still = left (λ k. n ≡ k → Answers n 0) n o.known
          (none_stopped goes_on searched.finds.begins searched.finds.whole)
          (λ e. inl e) (λ e. inr e)
          (λ e. let many = (crowded_at e).finds.total in let few = searched.finds.total in
          absurd (omega (arith, few, many)))
          (λ e. absurd (still (o.written.failed e)))
          (λ e. let less = (behind_at e).total in let within = searched.within in
          absurd (omega (arith, less, within)))
          refl

      -- ---- each cause

      header : AcceptedIsNotRefused → TextsAreAnswered is_calm → FirstsAreAnswered is_calm → (file : ℕ)
          (cause : HeaderCause) → RefusesFirstHeader w file cause → Answers n 3
      header not_refused texts firsts file (Text fault) refuses =
          answers n (Header file (Text fault))
          (of_run _ texts (λ e. not_refused.header w file (Text fault) (behind_at e).begins.accepted refuses) s files
          file fault says needed refuses)
      header not_refused texts firsts file (Fields fault) refuses =
          answers n (Header file (Fields fault))
          (of_run _ firsts (λ e. not_refused.header w file (Fields fault) (behind_at e).begins.accepted refuses) s
          files (Header file (Fields fault)) says needed refuses)

      plan : AcceptedIsNotRefused → FirstsAreAnswered is_calm → (cause : PlanCause) → RefusesSearch s.search w cause →
          Answers n 4
      plan not_refused firsts cause refuses =
          answers n (Plan cause)
          (of_run _ firsts (λ e. not_refused.search s.search w cause (behind_at e).begins.searched refuses) s files
          (Plan cause) says needed (refl, refuses))

      walk_stops : StopsAreAnswered is_calm → (stop : Stop) → StopsWalk (searching words from) s w stop →
          Answers n (status_of stop)
      walk_stops stops stop at =
          let there = stops_at w.max_bytes (walk_stop w) stop at.stops in
          answers n stop
          (of_run _ stops (λ e. there.0 (behind_at e).whole) s files there.1 stop says needed
          (inr (needed, begins at.begins)) at.stops there.2)

      beyond : AcceptedGoesOn is_calm → FindsAlone (part_search words from) s w (λ total. spectra_in w < from.place) →
          Answers n 13
      beyond goes_on far = left (λ k. n ≡ k → Answers n 13) n o.known (none_stopped goes_on far.begins far.whole)
          (λ e. absurd (not_within (searched_at (inl e)).within)) (λ e. inr e)
          (λ e. absurd (not_within (crowded_at e).within)) (λ e. absurd (not_within (searched_at (inr e)).within))
          (λ e. inl e) refl
        where
          not_within : from.place ≤ spectra_in w → ⊥
          not_within within = let less = far.total in omega (arith, less, within)

      too_many : AcceptedGoesOn is_calm → IsCrowded words from s w → Answers n 9
      too_many goes_on many = left (λ k. n ≡ k → Answers n 9) n o.known
          (none_stopped goes_on many.finds.begins many.finds.whole)
          (λ e. absurd (not_few (searched_at (inl e)))) (λ e. inr e) (λ e. inl e)
          (λ e. absurd (not_few (searched_at (inr e))))
          (λ e. let less = (behind_at e).total in let within = many.within in absurd (omega (arith, less, within))) refl
        where
          not_few : IsSearched words from s w → ⊥
          not_few searched =
              let least = many.finds.total in let most = searched.finds.total in omega (arith, least, most)

      pub each : AcceptedIsNotRefused → TextsAreAnswered is_calm → FirstsAreAnswered is_calm →
          StopsAreAnswered is_calm → AcceptedGoesOn is_calm → EachIsAnswered words from s w n
      each not_refused texts firsts stops goes_on = record {
        header = header not_refused texts firsts;
        plan = plan not_refused firsts;
        walk = walk_stops stops;
        beyond = beyond goes_on;
        too_many = too_many goes_on;
      }

    -- ---- what has room

    pub has_room : (room : ℕ) → seen.out_before.room ≡ Some room → length (text_in_part words from s w) ≤ room →
        n ≡ 10 → ⊥
    has_room room told enough e =
        let wrote = (o.written.front e s files says are).1 in
        let short = wrote.short room told in
        let one : length (text_in_part words o.from s w) ≡ length (text_in_part words from s w) =
        ap (λ c. length (text_in_part words c s w)) (same_from (o.accepted (6, lit< tt, sym e))) in
        omega (arith, short, enough, one)

-- ---- the laws

pub accepted_is_searched : TextsSayOne → (is_calm : Type 0) → AcceptedGoesOn is_calm → AcceptedIsSearched is_calm
accepted_is_searched law is_calm goes_on words seen o from check s files says are searched quiet =
    accepted words is_calm seen o from s files says are check.bytes check.named law from check.text check.before quiet
    goes_on searched

pub causes_are_answered : TextsSayOne → (is_calm : Type 0) → AcceptedIsNotRefused → TextsAreAnswered is_calm →
    FirstsAreAnswered is_calm → StopsAreAnswered is_calm → AcceptedGoesOn is_calm → CausesAreAnswered is_calm
causes_are_answered law is_calm not_refused texts firsts stops goes_on = record {
  files = λ words seen o from check s files says are quiet.
      each words is_calm seen o from s files says are check.bytes check.named law from check.text check.before quiet
      not_refused texts firsts stops goes_on;
  checkpoint = λ words seen o from s says quiet. record {
    form = λ bytes named none. no_text words is_calm seen o from s says bytes named quiet none;
    place = λ bytes c named is late. no_place words is_calm seen o from s says bytes named quiet law c is late;
  };
}

pub told_room_is_enough : TextsSayOne → (is_calm : Type 0) → ToldRoomIsEnough is_calm
told_room_is_enough law is_calm words seen o from check s files says are =
    has_room words is_calm seen o from s files says are check.bytes check.named law from check.text check.before
