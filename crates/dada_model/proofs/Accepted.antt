-- What an accepted header's numbers are, and when a header is accepted.
use Rattle.std.proofs.Common.{◌≡◌, Bool, true, false, cond, List, [], ◌∷◌, ◌++◌, refl, sym, Option, Some, None, Result, Ok, Err}
use Rattle.std.specs.Prelude.{ℤ, filter_map}
use Rattle.std.specs.List.{AllByRecursion, cons_option}
use Rattle.dada_model.specs.declared.key.Key.{Key}
use Rattle.dada_model.specs.declared.key.Key.TheVariants.{Nchan, Nbit, Npol, Ndim, Tsamp, Freq, Bw, ObsOffset}
use Rattle.dada_model.specs.Fields.{Field}
use Rattle.dada_model.specs.Laws.{HasNumberInRow}
use Rattle.dada_model.specs.Observation.{Observation, Refusal, keys, number_of, observation_in, is_in_row, refusal_of_number, outside, refusal_at, too_narrow, refusals, unless_refused, observation_of}

-- ---- the list of refusals

no_first : (o : Option Refusal) (rest : List Refusal) (last : List Refusal) → cons_option o rest ++ last ≡ [] →
    (o ≡ None) × (rest ++ last ≡ [])
no_first None rest last e = (refl, e)
no_first (Some r) rest last e = (cc)

none_at : (f : Key → Option Refusal) (xs : List Key) (last : List Refusal) → filter_map f xs ++ last ≡ [] →
    AllByRecursion (λ key. f key ≡ None) xs × (last ≡ [])
none_at f [] last e = (tt, e)
none_at f (x ∷ xs) last e =
    let first = no_first (f x) (filter_map f xs) last e in
    let more = none_at f xs last first.1 in
    ((first.0, more.0), more.1)

all_none : (f : Key → Option Refusal) (xs : List Key) → ((key : Key) → f key ≡ None) → filter_map f xs ≡ []
all_none f [] h = refl
all_none f (x ∷ xs) h = rw (h x) (all_none f xs h)

taken : (o p : Observation) (rs : List Refusal) → unless_refused o rs ≡ Ok p → (p ≡ o) × (rs ≡ [])
taken o p [] e = (sym (cc), refl)
taken o p (r ∷ rs) e = (cc)

-- ---- from an accepted header

module _ (fields : List Field) (o : Observation) (accepted : observation_of fields ≡ Ok o) where
  pub accepted_is : o ≡ observation_in fields
  unfolding observation_of
  accepted_is = (taken (observation_in fields) o (refusals fields) accepted).0

  rows : AllByRecursion (λ key. refusal_at fields key ≡ None) keys × (too_narrow (observation_in fields) ≡ [])
  unfolding observation_of refusals
  rows = none_at (refusal_at fields) keys (too_narrow (observation_in fields))
      (taken (observation_in fields) o (refusals fields) accepted).1

  pub accepted_at : (key : Key) → refusal_at fields key ≡ None
  accepted_at Nchan = rows.0.0
  accepted_at Nbit = rows.0.1.0
  accepted_at Npol = rows.0.1.1.0
  accepted_at Ndim = rows.0.1.1.1.0
  accepted_at Tsamp = rows.0.1.1.1.1.0
  accepted_at Freq = rows.0.1.1.1.1.1.0
  accepted_at Bw = rows.0.1.1.1.1.1.1.0
  accepted_at ObsOffset = rows.0.1.1.1.1.1.1.1.0

  pub accepted_wide : too_narrow (observation_in fields) ≡ []
  accepted_wide = rows.1

-- ---- to an accepted header

pub accepted_when : (fields : List Field) → ((key : Key) → refusal_at fields key ≡ None) →
    too_narrow (observation_in fields) ≡ [] → observation_of fields ≡ Ok (observation_in fields)
unfolding observation_of refusals
accepted_when fields h wide = rw (all_none (refusal_at fields) keys h) (rw wide refl)

-- ---- one key

passed : (b : Bool) (r : Refusal) → cond b None (Some r) ≡ None → b ≡ true
passed true r e = refl
passed false r e = (cc)

number_if_none : (o : Observation) (key : Key) (n : Result ℤ Refusal) → refusal_of_number o key n ≡ None →
    (z : ℤ) × (n ≡ Ok z) × (is_in_row o key z ≡ true)
number_if_none o key (Err r) e = (cc)
number_if_none o key (Ok z) e = (z, refl, passed (is_in_row o key z) (outside key) e)

none_if_number : (o : Observation) (key : Key) (z : ℤ) → is_in_row o key z ≡ true →
    refusal_of_number o key (Ok z) ≡ None
none_if_number o key z e = rw e

pub number_when : (fields : List Field) (key : Key) → refusal_at fields key ≡ None → HasNumberInRow fields key
unfolding refusal_at
number_when fields key e =
    let found = number_if_none (observation_in fields) key (number_of fields key) e in
    record { number = found.0; is = found.1; in_row = found.2 }

pub none_when : (fields : List Field) (key : Key) → HasNumberInRow fields key → refusal_at fields key ≡ None
unfolding refusal_at
none_when fields key h = rw h.is (none_if_number (observation_in fields) key h.number h.in_row)
