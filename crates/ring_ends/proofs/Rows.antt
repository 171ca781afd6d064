-- Lists from which the first element is taken, again and again.
use Rattle.std.proofs.Common.{◌≡◌, ℕ, zero, suc, ◌+◌, List, [], ◌∷◌, ◌++◌, length, get_or, drop, remove, Option, Some, None, slice_get, refl, ap, ◌∙◌, arith}

module _ {A : Type 0} where
  pub drop_first : (l : List A) (n : ℕ) (a : A) → slice_get l n ≡ Some a → drop n l ≡ a ∷ drop (n + 1) l
  drop_first [] n a e = cc
  drop_first (x ∷ xs) zero a e = ap (λ (o : Option A). first_of x o ∷ xs) e
    where
      first_of : A → Option A → A
      first_of d None = d
      first_of d (Some y) = y
  drop_first (x ∷ xs) (suc n) a e = drop_first xs n a e
      ∙ ap (λ (k : ℕ). a ∷ drop k (x ∷ xs)) (let same : suc (n + 1) ≡ suc n + 1 = omega arith in same)

  pub removed : (l items : List A) (n : ℕ) (a r : A) → slice_get l n ≡ Some a → items ≡ drop n l →
      r ≡ get_or items 0 r → r ≡ a
  removed l items n a r at is first = first ∙ ap (λ (m : List A). get_or m 0 r) (is ∙ drop_first l n a at)

  pub left_over : (l items items' : List A) (n : ℕ) (a : A) → slice_get l n ≡ Some a → items ≡ drop n l →
      items' ≡ remove items 0 → items' ≡ drop (n + 1) l
  left_over l items items' n a at is gone = gone ∙ ap (λ (m : List A). remove m 0) (is ∙ drop_first l n a at)

  pub longer : (l m : List A) (i : ℕ) (a : A) → slice_get l i ≡ Some a → slice_get (l ++ m) i ≡ Some a
  longer [] m i a e = cc
  longer (x ∷ xs) m zero a e = e
  longer (x ∷ xs) m (suc i) a e = longer xs m i a e

  pub at_end : (l : List A) (a : A) (n : ℕ) → length l ≡ n → slice_get (l ++ a ∷ []) n ≡ Some a
  at_end [] a zero e = refl
  at_end [] a (suc n) e = absurd (omega arith)
  at_end (x ∷ xs) a zero e = absurd (omega arith)
  at_end (x ∷ xs) a (suc n) e = at_end xs a n (omega arith)
