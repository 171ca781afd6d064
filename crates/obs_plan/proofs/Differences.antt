-- The first difference in a list of values.
use Rattle.std.proofs.Common.{◌≡◌, ℕ, zero, suc, ◌+◌, ◌<◌, List, [], ◌∷◌, length, get_or, take, refl, arith, Option, Some, None, Result, Err, true, false}
use Rattle.std.specs.Prelude.{filter_map, ℤ}
use Rattle.std.specs.List.{cons_option}
use Rattle.obs_plan.specs.declared.fault.ObsFault.{ObsFault}
use Rattle.obs_plan.specs.declared.fault.ObsFault.TheVariants.{Differs}
use Rattle.dada_model.specs.declared.key.Key.{Key}
use Rattle.dada_model.specs.Fields.{Field}
use Rattle.dada_model.specs.Observation.{number_of}
use Rattle.obs_plan.specs.Offset.{has_value}
use Rattle.obs_plan.specs.Later.{difference, unless_differs}

none_of : {B : Type 0} (o : Option B) (rest : List B) → cons_option o rest ≡ [] → (o ≡ None) × (rest ≡ [])
none_of None rest e = (refl, e)
none_of (Some b) rest e = (cc)

module _ {A : Type 0} (f : A → Option ObsFault) where
  same_more : (xs : List A) (i : ℕ) (d : A) → i < length xs → filter_map f (take i xs) ≡ [] → f (get_or xs i d) ≡ None →
      filter_map f (take (suc i) xs) ≡ []
  same_more [] i d within none here = absurd (omega arith)
  same_more (x ∷ xs) zero d within none here = rw here refl
  same_more (x ∷ xs) (suc i) d within none here =
      let first = none_of (f x) (filter_map f (take i xs)) none in
      rw first.0 (same_more xs i d (omega arith) first.1 here)

  pub same_next : (xs : List A) (i : ℕ) (d : A) → i < length xs → filter_map f (take i xs) ≡ [] →
      f (get_or xs i d) ≡ None → filter_map f (take (i + 1) xs) ≡ []
  same_next xs i d within none here =
      let next : i + 1 ≡ suc i = omega arith in
      rw next (same_more xs i d within none here)

  pub differs_first : (xs : List A) (i : ℕ) (d : A) → i < length xs → filter_map f (take i xs) ≡ [] →
      (fault : ObsFault) → f (get_or xs i d) ≡ Some fault → (offset : Result ℕ ObsFault) →
      unless_differs (filter_map f xs) offset ≡ Err fault
  differs_first [] i d within none fault here offset = absurd (omega arith)
  differs_first (x ∷ xs) zero d within none fault here offset = rw here refl
  differs_first (x ∷ xs) (suc i) d within none fault here offset =
      let first = none_of (f x) (filter_map f (take i xs)) none in
      rw first.0 (differs_first xs i d (omega arith) first.1 fault here offset)

-- one value
module _ (fields : List Field) (e : Key × ℤ) where
  pub same_value : has_value (number_of fields e.0) e.1 ≡ true → difference fields e ≡ None
  same_value h = rw h refl

  pub other_value : has_value (number_of fields e.0) e.1 ≡ false → difference fields e ≡ Some (Differs e.0)
  other_value h = rw h refl
