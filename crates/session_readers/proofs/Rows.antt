-- A list of which one element is written.
use Rattle.std.proofs.Common.{◌≡◌, ◌≢◌, ℕ, zero, suc, ◌<◌, List, [], ◌∷◌, length, slice_set, Some, slice_get, refl, ap, ◌∙◌, arith}
use Rattle.std.proofs.lemmas.Option.{slice_get-get_or}
use Rattle.std.proofs.lemmas.List.{length-set, get_or-set_same}

module _ {A : Type 0} where
  pub get_set_same : (xs : List A) (k : ℕ) (b : A) → k < length xs → slice_get (slice_set xs k b) k ≡ Some b
  get_set_same xs k b near =
      let long = length-set xs k b in
      slice_get-get_or (slice_set xs k b) k b (omega arith) ∙ ap (λ (a : A). Some a) (get_or-set_same xs k b b near)

  pub get_set_other : (xs : List A) (k j : ℕ) (b : A) → j ≢ k → slice_get (slice_set xs k b) j ≡ slice_get xs j
  get_set_other [] zero j b other = refl
  get_set_other [] (suc k) j b other = refl
  get_set_other (x ∷ xs) zero zero b other = absurd (other refl)
  get_set_other (x ∷ xs) zero (suc j) b other = refl
  get_set_other (x ∷ xs) (suc k) zero b other = refl
  get_set_other (x ∷ xs) (suc k) (suc j) b other = get_set_other xs k j b (λ same. other (ap suc same))
