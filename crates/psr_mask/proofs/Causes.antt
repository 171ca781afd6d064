-- From what stands against a search to its status, by the laws of how a run ends.
use Rattle.std.proofs.Common.{◌≡◌, ◌≢◌, ◌<◌, ◌⊎◌, ℕ, zero, suc, List, [], ◌∷◌, inl, inr, sym, subst, refl, Some, None, arith}
use Rattle.std.specs.Prelude.{Option, IsSome, length}
use Rattle.psr_base.specs.Count.{Rose}
use Rattle.psr_base.specs.Told.{Told}
use Rattle.ring_ends.specs.declared.finished.Finished.{Finished}
use Rattle.search_words.specs.Settings.{SettingsSeen}
use Rattle.stream_model.specs.Walk as walk
use Rattle.stream_model.specs.Walk.{FileStream, WalkStop, walk_stop}
use Rattle.stream_model.specs.WalkLaws.{AreWalked}
use Rattle.disk_feeder.specs.Plan.{AreTold, AreToldAt, IsFirstFile}
use Rattle.disk_feeder.specs.Reading.{StopsAtFile}
use Rattle.disk_feeder.specs.declared.answers.HeaderCause.{HeaderCause}
use Rattle.disk_feeder.specs.declared.answers.HeaderCause.TheVariants.{Text, Fields}
use Rattle.channel_mask.specs.MaskLaws.{MasksAreNotRefused}
use Rattle.channel_mask.specs.Masks.{mask_of}
use Rattle.channel_mask.specs.declared.fault.MaskFault.TheVariants as fault
use Rattle.run_outcome.specs.declared.causes.PlanCause.{PlanCause}
use Rattle.run_outcome.specs.declared.stop.Stop.{Stop}
use Rattle.run_outcome.specs.declared.stop.Stop.TheVariants.{Header, Plan}
use Rattle.run_outcome.specs.Texts.{status_of}
use Rattle.run_outcome.specs.Firsts.{first_name}
use Rattle.run_outcome.specs.Lone.{SayAlone}
use Rattle.run_outcome.specs.Runs.{Task, Alone, first_observation, stream_for, stop_of_walk, RefusesFirstHeader, RefusesSearch, StopsWalk}
use Rattle.run_outcome.specs.Ends.{ForRuns, EndsSo, AcceptedGoesOn, AcceptedIsNotRefused, TextsAreAnswered, FirstsAreAnswered, StopsAreAnswered}
use Rattle.psr_mask.specs.Masking.{AcceptsFirst, AcceptsMask, AcceptsMaskWord, RefusesFiles, RefusesMask, RefusesMaskWord, fault_of, mask_search, mask_word}
use Rattle.psr_mask.specs.Notes.{mask_status}
use Rattle.psr_mask.specs.Outcome.{IsOutcome, SearchSeen, HasMasked, IsSearched}
use Rattle.psr_mask.specs.Causes.{Answers, CausesAreAnswered, ToldRoomIsEnough}
use Rattle.psr_mask.specs.declared.refusal.MaskRefusal.{MaskRefusal}
use Rattle.psr_mask.specs.declared.refusal.MaskRefusal.TheVariants.{BadMask, OutOfRange, AllMasked}
use Rattle.psr_mask.proofs.Statuses.{from_each, left, sealed_by_run}

-- those files that are needed are told where all are
pub needed_told : (told : Told) (names files : List (List ℕ)) → AreTold told names files → {Needed : ℕ → Type 0} →
    AreToldAt Needed told names files
needed_told told names files are = record { count = are.count; each = λ k there is. are.each k there }

-- it is the status of this stop, or there was no memory
answers : (n : ℕ) (stop : Stop) → EndsSo stop n → Answers n (status_of stop)
answers n stop (zero, below, is) = inl (sym is)
answers n stop (suc zero, below, is) = inr (sym is)
answers n stop (suc (suc k), below, is) = absurd (omega (arith, below))

-- a walk that stops does so at some file
stops_at : (limit : ℕ) (at : WalkStop) (stop : Stop) → stop_of_walk limit at ≡ Some stop →
    (file : ℕ) × StopsAtFile at file
stops_at limit walk.Whole stop is = absurd cc
stops_at limit (walk.BadText file refusal) stop is = (file, refl)
stops_at limit (walk.BadFields file fault) stop is = (file, refl)
stops_at limit (walk.Gap file expected found) stop is = (file, refl)
stops_at limit (walk.TooLong file) stop is = (file, refl)

-- ---- the mask

no_want : (refusal : MaskRefusal) → fault_of refusal ≡ fault.Memory → ⊥
no_want (BadMask place) e = cc
no_want (OutOfRange channel channels) e = cc
no_want AllMasked e = cc

-- a mask that is accepted is not refused
mask_not_refused : MasksAreNotRefused → (words : List (List ℕ)) (w : FileStream) → AcceptsFirst words w →
    (refusal : MaskRefusal) → RefusesFiles words w refusal → ⊥
mask_not_refused masks words w accepts refusal refuses =
    let o = first_observation w 0 in
    let text = mask_word words in
    no_want refusal (masks o text (mask_of o text) (fault_of refusal) accepts refuses.1)

-- by a first file that is told
refused_by : (words : List (List ℕ)) (told : Told) (refusal : MaskRefusal) → RefusesMaskWord words told refusal →
    (s : SettingsSeen) (files : List (List ℕ)) → SayAlone (mask_search words) words s →
    AreToldAt (IsFirstFile s.starts (length s.names)) told s.names files →
    RefusesFiles words (stream_for s files) refusal
refused_by words told refusal r s files says are =
    let begins = r.first.1 s files says are in
    (begins.walked, subst (λ o. RefusesMask (mask_word words) o refusal) (sym begins.is) r.holds)

accepted_by : (words : List (List ℕ)) (told : Told) → AcceptsMaskWord words told → (s : SettingsSeen)
    (files : List (List ℕ)) → SayAlone (mask_search words) words s →
    AreToldAt (IsFirstFile s.starts (length s.names)) told s.names files → AcceptsFirst words (stream_for s files)
accepted_by words told a s files says are =
    subst (λ o. AcceptsMask (mask_word words) o) (sym (a.first.1 s files says are).is) a.holds

-- the first file of a transfer is told
first_told : (told : Told) (s : SettingsSeen) (files : List (List ℕ)) → AreWalked (stream_for s files) →
    AreToldAt (IsFirstFile s.starts (length s.names)) told s.names files →
    IsSome (told.bytes_under (first_name s.names s.starts 0))
first_told told s files walked are =
    let some = walked.starts.some in
    let within = rw are.count at (walked.starts.within 0 some) in rw (are.each _ within (0, some, refl)) refl

-- ---- a mask that is refused, by the first file alone

-- the inputs are calm, or count no fault
abbrev Quiet : Type 0 → SearchSeen → Type 0
Quiet is_calm seen = is_calm ⊎ (¬ Rose seen.inputs.faults_before seen.inputs.faults_after)

module _ (words : List (List ℕ)) (is_calm : Type 0) (seen : SearchSeen) (outcome : IsOutcome words is_calm seen)
    (s : SettingsSeen) (files : List (List ℕ)) (says : SayAlone (mask_search words) words s)
    (first : AreToldAt (IsFirstFile s.starts (length s.names)) seen.inputs.told s.names files)
    (not_refused : AcceptedIsNotRefused) (masks : MasksAreNotRefused) (calm : Quiet is_calm seen)
    (refusal : MaskRefusal) (refuses : RefusesFiles words (stream_for s files) refusal) where
  not_accepted : AcceptsMaskWord words seen.inputs.told → ⊥
  not_accepted accepts = mask_not_refused masks words (stream_for s files)
      (accepted_by words seen.inputs.told accepts s files says first) refusal refuses

  no_session : IsSome seen.ran.blocks → ⊥
  no_session some = not_accepted (outcome.answered.mask.accepted (inr some))

  no_fault : Quiet is_calm seen → seen.ran.status ≡ 6 → ⊥
  no_fault (inl is) six = no_session (outcome.answered.held is s says
      (first_told seen.inputs.told s files refuses.0 first) six)
  no_fault (inr still) six = still (outcome.answered.run.read.failed six)

  no_header : seen.ran.blocks ≡ None → seen.ran.status ≡ 3 → ⊥
  no_header none three =
      let r = outcome.answered.run.stopped.first_header three none in
      not_refused.firsts (Alone (mask_search words)) words seen.inputs.told s files r.0 r.1 says first refuses.0 r.2

  pub by_mask : (blocks : Option Finished) → seen.ran.blocks ≡ blocks → Answers seen.ran.status mask_status
  by_mask (Some b) is = absurd (no_session (subst IsSome (sym is) refl))
  by_mask None is = from_each (λ k. seen.ran.status ≡ k → Answers seen.ran.status mask_status)
      (2 ∷ 3 ∷ 4 ∷ 5 ∷ 6 ∷ mask_status ∷ []) seen.ran.status (outcome.answered.run.sealed.none is)
      (λ e. absurd (outcome.answered.run.judged.refused e s says))
      (λ e. absurd (no_header is e))
      (λ e. absurd (not_accepted (outcome.answered.mask.accepted (inl e))))
      (λ e. inr e)
      (λ e. absurd (no_fault calm e))
      (λ e. inl e)
      refl

-- ---- each cause, by all files

module _ (words : List (List ℕ)) (is_calm : Type 0) (seen : SearchSeen) (outcome : IsOutcome words is_calm seen)
    (s : SettingsSeen) (files : List (List ℕ)) (says : SayAlone (mask_search words) words s)
    (are : AreTold seen.inputs.told s.names files) (calm : Quiet is_calm seen) where
  abbrev w : FileStream
  w = stream_for s files

  abbrev n : ℕ
  n = seen.ran.status

  not_six : Quiet is_calm seen → n ≡ 6 → ⊥
  not_six (inl is) e =
      outcome.answered.run.read.serves is s says (λ k below. rw (are.each k below) refl) e
  not_six (inr still) e = still (outcome.answered.run.read.failed e)

  needed : {Needed : ℕ → Type 0} → AreToldAt Needed seen.inputs.told s.names files
  needed = needed_told seen.inputs.told s.names files are

  -- 12 comes only where the mask is refused
  at_mask : n ≡ 12 → (refusal : MaskRefusal) × RefusesFiles words w refusal
  at_mask e =
      let r = outcome.answered.mask.refused e in
      (r.1, refused_by words seen.inputs.told r.1 r.2 s files says needed)

  pub no_mask : MasksAreNotRefused → AcceptsFirst words w → n ≢ 12
  no_mask masks accepts e = let r = at_mask e in mask_not_refused masks words w accepts r.0 r.1

  -- a law of runs, of this search at any other status
  of_run : (Q : Task → List (List ℕ) → Told → Option Finished → ℕ → Type 0) → ForRuns is_calm Q → n ≢ 12 →
      Q (Alone (mask_search words)) words seen.inputs.told seen.ran.blocks n
  of_run Q law other =
      let run = outcome.answered.run in
      law (Alone (mask_search words)) words seen.inputs seen.inputs.told seen.ran.blocks n run.judged run.read
      run.stopped
      (sealed_by_run mask_status (mask_search words) words seen.inputs.told seen.ran.blocks n other run.sealed)
      (λ six. absurd (not_six calm six)) calm

  header : AcceptedIsNotRefused → TextsAreAnswered is_calm → FirstsAreAnswered is_calm → (file : ℕ)
      (cause : HeaderCause) → RefusesFirstHeader w file cause → Answers n 3
  header not_refused texts firsts file (Text fault) refuses =
      answers n (Header file (Text fault))
      (of_run _ texts (λ e. not_refused.header w file (Text fault) (at_mask e).1.0 refuses) s files file fault says
      needed refuses)
  header not_refused texts firsts file (Fields fault) refuses =
      answers n (Header file (Fields fault))
      (of_run _ firsts (λ e. not_refused.header w file (Fields fault) (at_mask e).1.0 refuses) s files
      (Header file (Fields fault)) says needed refuses)

  plan : MasksAreNotRefused → FirstsAreAnswered is_calm → AcceptsFirst words w → (cause : PlanCause) →
      RefusesSearch s.search w cause → Answers n 4
  plan masks firsts accepts cause refuses =
      answers n (Plan cause)
      (of_run _ firsts (no_mask masks accepts) s files (Plan cause) says needed (refl, refuses))

  walk_stops : MasksAreNotRefused → StopsAreAnswered is_calm → AcceptsFirst words w → (stop : Stop) →
      StopsWalk (Alone (mask_search words)) s w stop → Answers n (status_of stop)
  walk_stops masks stops accepts stop at =
      let there = stops_at w.max_bytes (walk_stop w) stop at.stops in
      answers n stop
      (of_run _ stops (no_mask masks accepts) s files there.0 stop says needed (inr (needed, at.begins)) at.stops
      there.1)

  too_many : MasksAreNotRefused → AcceptedGoesOn is_calm → AcceptsFirst words w →
      HasMasked words s w (λ total. s.search.max_candidates < total) → Answers n 9
  too_many masks goes_on accepts many =
      let a = outcome.answered in
      left (λ k. n ≡ k → Answers n 9) n a.known
      (goes_on (Alone (mask_search words)) words seen.inputs seen.ran.blocks n a.run.judged a.run.read a.run.stopped
      s files says are many.begins many.whole calm)
      (λ e. crowded (a.written.text e s files says are).0) (λ e. inr e) (λ e. inl e)
      (λ e. crowded (a.written.front e s files says are).0) (λ e. absurd (no_mask masks accepts e)) refl
    where
      crowded : IsSearched words s w → Answers n 9
      crowded searched = let least = many.total in let most = searched.total in absurd (omega (arith, least, most))

pub causes_are_answered : (is_calm : Type 0) → AcceptedIsNotRefused → MasksAreNotRefused →
    TextsAreAnswered is_calm → FirstsAreAnswered is_calm → StopsAreAnswered is_calm → AcceptedGoesOn is_calm →
    CausesAreAnswered is_calm
causes_are_answered is_calm not_refused masks texts firsts stops goes_on = record {
  files = λ words seen o s files says are calm. record {
    header = header words is_calm seen o s files says are calm not_refused texts firsts;
    mask = λ refusal refuses. by_mask words is_calm seen o s files says
        (needed_told seen.inputs.told s.names files are) not_refused masks calm refusal refuses seen.ran.blocks refl;
    plan = plan words is_calm seen o s files says are calm masks firsts;
    walk = walk_stops words is_calm seen o s files says are calm masks stops;
    too_many = too_many words is_calm seen o s files says are calm masks goes_on;
  };
  mask = λ words seen o s files says first calm refusal refuses.
      by_mask words is_calm seen o s files says first not_refused masks calm refusal refuses seen.ran.blocks refl;
}

-- ---- what has room

pub told_room_is_enough : (is_calm : Type 0) → ToldRoomIsEnough is_calm
told_room_is_enough is_calm words seen o s files says are room told enough e =
    let wrote = (o.answered.written.front e s files says are).1 in
    let short = wrote.short room told in
    omega (arith, short, enough)
