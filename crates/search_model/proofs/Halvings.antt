-- The greatest number of halvings that fits, and the numbers that a search goes through.
use Rattle.std.proofs.Common.{◌≡◌, ℕ, ◌+◌, ◌-◌, ◌*◌, ◌^◌, ◌<◌, ◌≤◌, ◌⊎◌, inl, inr, List, [], ◌∷◌, refl, max, arith, leb}
use Rattle.std.specs.Prelude.{Contains, fold, filter}
use Rattle.std.proofs.lemmas.Bool.{cases_lt, leb-true, le-leb}
use Rattle.search_model.specs.Sums.{between}
use Rattle.search_model.specs.Folds.{halvings}
use Rattle.search_model.specs.CandidateLaws.{IsMostHalvings}
use Rattle.search_model.proofs.Lists.{no_member, member_cases, member_first, member_tail, member_filter, filter_member, member_range, range_member}

-- ---- numbers from one to another

pub member_between : (a b k : ℕ) → Contains (between a b) k → (a ≤ k) × (k ≤ b)
member_between a b k h = let m = member_range a (b + 1 - a) k h in (m.0, omega (arith, m.0, m.1))

pub between_member : (a b k : ℕ) → a ≤ k → k ≤ b → Contains (between a b) k
between_member a b k from to = range_member a (b + 1 - a) k from (omega arith)

-- ---- a greatest value

max_least : (xs : List ℕ) (a : ℕ) → a ≤ fold max a xs
max_least [] a = omega arith
max_least (x ∷ xs) a = omega (arith, max_least xs (max a x))

max_bound : (xs : List ℕ) (a k : ℕ) → Contains xs k → k ≤ fold max a xs
max_bound [] a k h = absurd (no_member k h)
max_bound (x ∷ xs) a k h = elim (member_cases x xs k h) [
  | inl is ↦ omega (arith, max_least xs (max a x))
  | inr tail ↦ max_bound xs (max a x) k tail
]

max_reached : (xs : List ℕ) (a : ℕ) → (fold max a xs ≡ a) ⊎ Contains xs (fold max a xs)
max_reached [] a = inl refl
max_reached (x ∷ xs) a = elim (max_reached xs (max a x)) [
  | inr tail ↦ inr (member_tail x xs _ tail)
  | inl is ↦ elim (cases_lt a x) [
    | inl more ↦ inr (member_first x xs _ (omega arith))
    | inr less ↦ inl (omega arith)
  ]
]

-- ---- halvings

module _ (most p room : ℕ) where
  fitting_member : (m : ℕ) → Contains (filter (λ k. leb (2 ^ k * p) room) (between 1 most)) m →
      (1 ≤ m) × (m ≤ most) × (2 ^ m * p ≤ room)
  fitting_member m h =
      let both = member_filter (λ k. leb (2 ^ k * p) room) (between 1 most) m h in
      let range = member_between 1 most m both.1 in
      (range.0, range.1, leb-true (2 ^ m * p) room both.0)

  halvings_least : (k : ℕ) → 1 ≤ k → k ≤ most → 2 ^ k * p ≤ room → k ≤ halvings most p room
  halvings_least k some within fits =
      max_bound _ 0 k (filter_member (λ i. leb (2 ^ i * p) room) (between 1 most) k (le-leb (2 ^ k * p) room fits)
      (between_member 1 most k some within))

  -- some number fits, and it is the greatest
  pub most_halvings : 0 < halvings most p room → IsMostHalvings most p room (halvings most p room)
  most_halvings some =
      elim (max_reached (filter (λ k. leb (2 ^ k * p) room) (between 1 most)) 0) [
        | inl none ↦ absurd (omega arith)
        | inr one ↦
            let fits = fitting_member (halvings most p room) one in
            record {
              some = some;
              within = fits.1;
              fits = fits.2;
              greatest = λ k within small. elim (cases_lt 0 k) [
                | inl more ↦ halvings_least k more within small
                | inr none ↦ omega arith
              ];
            }
      ]

  pub halvings_are : (m : ℕ) → IsMostHalvings most p room m → halvings most p room ≡ m
  halvings_are m is =
      let least = halvings_least m is.some is.within is.fits in
      let some = is.some in
      elim (max_reached (filter (λ k. leb (2 ^ k * p) room) (between 1 most)) 0) [
        | inl none ↦ absurd (omega arith)
        | inr one ↦
            let fits = fitting_member (halvings most p room) one in
            let greatest = is.greatest (halvings most p room) fits.1 fits.2 in
            omega arith
      ]
