-- What is refused at a key, and what is refused first.
use Rattle.std.proofs.Common.{◌≡◌, false, List, [], ◌∷◌, ◌++◌, refl, sym, ap, ◌∙◌, Some, None, Ok, Err, Option}
use Rattle.std.specs.Prelude.{ℤ, filter_map}
use Rattle.std.specs.List.{AllByRecursion}
use Rattle.dada_model.specs.declared.key.Key.{Key}
use Rattle.dada_model.specs.Fields.{Field}
use Rattle.dada_model.specs.Observation.{Refusal, keys, number_of, observation_in, is_in_row, outside, refusal_at, too_narrow, refusals, unless_refused, observation_of}
use Rattle.obs_plan.specs.declared.fault.ObsFault.{ObsFault}
use Rattle.obs_plan.specs.declared.fault.ObsFault.TheVariants.{Missing, BadNumber, OutOfProfile, OutOfRange, TooNarrow, Differs, Memory}
use Rattle.obs_plan.specs.Faults.{IsObservationRefusal, IsRefusedAt, IsRefusedFirst}
use Rattle.obs_plan.specs.Rows.{IsTaken}

-- ---- faults

pub refusal_map : (P Q : Refusal → Type 0) → ((refusal : Refusal) → P refusal → Q refusal) → (fault : ObsFault) →
    IsObservationRefusal P fault → IsObservationRefusal Q fault
refusal_map P Q f (Missing key) h = f _ h
refusal_map P Q f (BadNumber key) h = f _ h
refusal_map P Q f (OutOfProfile key) h = f _ h
refusal_map P Q f (OutOfRange key) h = f _ h
refusal_map P Q f (TooNarrow bw nchan) h = f _ h
refusal_map P Q f (Differs key) h = h
refusal_map P Q f Memory h = h

-- ---- one key

module _ (fields : List Field) (key : Key) where
  pub refused_number : (refusal : Refusal) → number_of fields key ≡ Err refusal → refusal_at fields key ≡ Some refusal
  unfolding refusal_at
  refused_number refusal e = rw e refl

  refused_row : (z : ℤ) → number_of fields key ≡ Ok z → is_in_row (observation_in fields) key z ≡ false →
      refusal_at fields key ≡ Some (outside key)
  unfolding refusal_at
  refused_row z e row = rw e (rw row refl)

  -- the fault of a value outside its row
  pub refused_outside : (fault : ObsFault) → IsObservationRefusal (λ refusal. refusal ≡ outside key) fault → (z : ℤ) →
      number_of fields key ≡ Ok z → is_in_row (observation_in fields) key z ≡ false → IsRefusedAt fields key fault
  refused_outside fault is z e row =
      refusal_map (λ refusal. refusal ≡ outside key) (λ refusal. refusal_at fields key ≡ Some refusal)
      (λ refusal same. refused_row z e row ∙ ap Some (sym same)) fault is

  none_taken : (z : ℤ) → IsTaken fields key z → refusal_at fields key ≡ None
  unfolding refusal_at
  none_taken z taken = rw taken.is (rw taken.in_row refl)

-- ---- the first refusal

-- the list of refusals begins with that at a key, where nothing is refused at the keys before it
front : (f : Key → Option Refusal) (before : List Key) (key : Key) (after : List Key) (last : List Refusal)
    (refusal : Refusal) →
    AllByRecursion (λ k. f k ≡ None) before → f key ≡ Some refusal →
    (more : List Refusal) × (filter_map f (before ++ (key ∷ after)) ++ last ≡ refusal ∷ more)
front f [] key after last refusal none e = (filter_map f after ++ last, rw e refl)
front f (b ∷ bs) key after last refusal none e = let rest = front f bs key after last refusal none.1 e in
    (rest.0, rw none.0 rest.1)

all_none : (f : Key → Option Refusal) (ks : List Key) → AllByRecursion (λ k. f k ≡ None) ks → filter_map f ks ≡ []
all_none f [] h = refl
all_none f (k ∷ ks) h = rw h.0 (all_none f ks h.1)

-- the numbers of keys are taken
pub data AreTakenAt (fields : List Field) : List Key → Type 0 where
  no_key : AreTakenAt fields []
  past : {key : Key} {z : ℤ} {keys : List Key} → IsTaken fields key z → AreTakenAt fields keys →
      AreTakenAt fields (key ∷ keys)

module _ (fields : List Field) where
  none_at : (ks : List Key) → AreTakenAt fields ks → AllByRecursion (λ k. refusal_at fields k ≡ None) ks
  none_at _ no_key = tt
  none_at _ (past taken more) = (none_taken fields _ _ taken, none_at _ more)

  first_refusal : (before : List Key) (key : Key) (after : List Key) → keys ≡ before ++ (key ∷ after) →
      AllByRecursion (λ k. refusal_at fields k ≡ None) before → (refusal : Refusal) →
      refusal_at fields key ≡ Some refusal → observation_of fields ≡ Err refusal
  unfolding observation_of refusals
  first_refusal before key after is none refusal e =
      let list = front (refusal_at fields) before key after (too_narrow (observation_in fields)) refusal none e in
      let whole : filter_map (refusal_at fields) keys ++ too_narrow (observation_in fields) ≡ refusal ∷ list.0 =
      ap (λ (ks : List Key). filter_map (refusal_at fields) ks ++ too_narrow (observation_in fields)) is ∙ list.1 in
      ap (unless_refused (observation_in fields)) whole

  pub refused_first : {before : List Key} → AreTakenAt fields before → (key : Key) (after : List Key) →
      keys ≡ before ++ (key ∷ after) → (fault : ObsFault) → IsRefusedAt fields key fault →
      IsRefusedFirst fields fault
  refused_first {before} taken key after is fault h =
      refusal_map (λ refusal. refusal_at fields key ≡ Some refusal) (λ refusal. observation_of fields ≡ Err refusal)
      (first_refusal before key after is (none_at before taken)) fault h

  -- last comes a band that is too narrow
  pub refused_last : AreTakenAt fields keys → (refusal : Refusal) →
      too_narrow (observation_in fields) ≡ refusal ∷ [] → observation_of fields ≡ Err refusal
  unfolding observation_of refusals
  refused_last taken refusal narrow =
      let whole : filter_map (refusal_at fields) keys ++ too_narrow (observation_in fields) ≡ refusal ∷ [] =
      rw (all_none (refusal_at fields) keys (none_at keys taken)) narrow in
      ap (unless_refused (observation_in fields)) whole
