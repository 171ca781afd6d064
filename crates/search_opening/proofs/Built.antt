-- Lists that are built one element after another, of which P is true by place.
use Rattle.std.proofs.Common.{◌≡◌, ℕ, ◌+◌, ◌-◌, ◌<◌, inl, inr, List, [], ◌∷◌, ◌++◌, length, get_or, slice_get, Some, sym, ap, subst, ◌∙◌, arith, length-append}
use Rattle.std.proofs.lemmas.Bool.{cases_lt}
use Rattle.std.proofs.lemmas.List.{get_or_append_left, get_or-append_right}
use Rattle.std.proofs.lemmas.Option.{get_or_from_slice_get, slice_get-get_or}

-- there are n elements, of which P is true
pub record AreBuilt {X : Type 0} (P : ℕ → X → Type 0) (n : ℕ) (xs : List X) : Type 0 where
  pub count : length xs ≡ n
  pub each : (k : ℕ) → k < n → (x : X) × (slice_get xs k ≡ Some x) × P k x

pub none_built : {X : Type 0} (P : ℕ → X → Type 0) (xs : List X) → xs ≡ [] → AreBuilt P 0 xs
none_built P xs none = record {
  count = ap length none;
  each = λ k within. absurd (omega (arith, within));
}

-- one more
pub one_built : {X : Type 0} (P : ℕ → X → Type 0) (n : ℕ) (xs more : List X) (x : X) → AreBuilt P n xs → P n x →
    more ≡ xs ++ x ∷ [] → AreBuilt P (n + 1) more
one_built {X} P n xs more x built is grown =
    let joined = length-append xs (x ∷ []) in
    let size = ap length grown in
    record {
      count = omega (arith, size, joined, built.count);
      each = λ k within. elim (cases_lt k n) [
        | inl below ↦
            let found = built.each k below in
            let stays : slice_get more k ≡ Some found.0 =
            slice_get-get_or more k found.0 (omega (arith, below, built.count, size, joined))
            ∙ ap (λ (y : X). Some y) (ap (λ (ys : List X). get_or ys k found.0) grown
            ∙ get_or_append_left xs (x ∷ []) found.0 k (omega (arith, below, built.count))
            ∙ get_or_from_slice_get xs k found.0 found.0 found.1) in
            (found.0, stays, found.2)
        | inr above ↦
            let same : k ≡ n = omega (arith, within, above) in
            let none : k - n ≡ 0 = omega (arith, same) in
            let last : slice_get more k ≡ Some x =
            slice_get-get_or more k x (omega (arith, same, built.count, size, joined))
            ∙ ap (λ (y : X). Some y) (ap (λ (ys : List X). get_or ys k x) grown
            ∙ get_or-append_right xs (x ∷ []) n k x built.count (omega (arith, same))
            ∙ ap (λ i. get_or (x ∷ []) i x) none) in
            (x, last, subst (λ i. P i x) (sym same) is)
      ];
    }
