-- Lists read by `slice_get` after a write.
use Rattle.std.specs.Prelude.{◌≡◌, ◌≢◌, ℕ, zero, suc, ◌<◌, ◌⊎◌, List, [], ◌∷◌, length, Some, slice_get, slice_set, slice_index, replicate, map}
use Rattle.std.proofs.Common.{inl, inr, arith, refl, sym, ap, subst, ⊎_elim}

module _ {A : Type 0} where
  pub get_set-same : (xs : List A) (i : ℕ) (a : A) → i < length xs → slice_get (slice_set xs i a) i ≡ Some a
  get_set-same [] i a h = absurd (omega arith)
  get_set-same (x ∷ xs) zero a h = refl
  get_set-same (x ∷ xs) (suc i) a h = get_set-same xs i a (omega arith)

  pub get_set-other : (xs : List A) (i j : ℕ) (a : A) → j ≢ i → slice_get (slice_set xs i a) j ≡ slice_get xs j
  get_set-other [] i j a ne = refl
  get_set-other (x ∷ xs) zero zero a ne = absurd (ne refl)
  get_set-other (x ∷ xs) zero (suc j) a ne = refl
  get_set-other (x ∷ xs) (suc i) zero a ne = refl
  get_set-other (x ∷ xs) (suc i) (suc j) a ne = get_set-other xs i j a (λ e. ne (ap suc e))

  -- what a list has after a write: the new value there, or what stood elsewhere
  pub get_set-cases : (xs : List A) (i j : ℕ) (a b : A) → slice_get (slice_set xs i a) j ≡ Some b →
      ((j ≡ i) × (b ≡ a)) ⊎ ((j ≢ i) × (slice_get xs j ≡ Some b))
  get_set-cases [] i j a b e = cc
  get_set-cases (x ∷ xs) zero zero a b e = inl (refl, cc)
  get_set-cases (x ∷ xs) zero (suc j) a b e = inr ((λ h. omega arith), e)
  get_set-cases (x ∷ xs) (suc i) zero a b e = inr ((λ h. omega arith), e)
  get_set-cases (x ∷ xs) (suc i) (suc j) a b e = ⊎_elim (λ t. inl (ap suc t.0, t.1))
      (λ t. let n = t.0 in inr ((λ h. n (omega arith)), t.1)) (get_set-cases xs i j a b e)

  -- a fact of each element after a write: of the new value at its place, and of what stood elsewhere
  pub each_after : (P : ℕ → A → Type 0) (xs : List A) (i : ℕ) (a : A) → P i a →
      ((j : ℕ) (b : A) → slice_get xs j ≡ Some b → P j b) → (j : ℕ) (b : A) →
      slice_get (slice_set xs i a) j ≡ Some b → P j b
  each_after P xs i a here else j b e = ⊎_elim
      (λ t. let Q : A → Type 0 = λ c. P j c in let R : ℕ → Type 0 = λ k. P k a in
      subst Q (sym t.1) (subst R (sym t.0) here))
      (λ t. else j b t.1)
      (get_set-cases xs i j a b e)

-- the number at a place after a write: the new one, at that place, or the old one
pub index_set-cases : (xs : List ℕ) (i j c : ℕ) → ((j ≡ i) × (slice_index (slice_set xs i c) j ≡ c))
    ⊎ (slice_index (slice_set xs i c) j ≡ slice_index xs j)
index_set-cases [] i j c = inr refl
index_set-cases (x ∷ xs) zero zero c = inl (refl, refl)
index_set-cases (x ∷ xs) zero (suc j) c = inr refl
index_set-cases (x ∷ xs) (suc i) zero c = inr refl
index_set-cases (x ∷ xs) (suc i) (suc j) c = ⊎_elim (λ t. inl (ap suc t.0, t.1)) (λ e. inr e) (index_set-cases xs i j c)

pub get_replicate : {A : Type 0} (n i : ℕ) (a b : A) → slice_get (replicate n a) i ≡ Some b → b ≡ a
get_replicate zero i a b e = cc
get_replicate (suc n) zero a b e = cc
get_replicate (suc n) (suc i) a b e = get_replicate n i a b e

pub index_replicate : (n i : ℕ) → slice_index (replicate n 0) i ≡ 0
index_replicate zero i = refl
index_replicate (suc n) zero = refl
index_replicate (suc n) (suc i) = index_replicate n i

pub map_replicate : {A B : Type 0} (f : A → B) (n : ℕ) (a : A) → map f (replicate n a) ≡ replicate n (f a)
map_replicate f zero a = refl
map_replicate f (suc n) a = ap (λ l. f a ∷ l) (map_replicate f n a)
