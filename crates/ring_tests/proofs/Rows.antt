-- Lists from which the first element is taken, again and again.
use Rattle.std.proofs.Common.{◌≡◌, ℕ, zero, suc, ◌+◌, List, [], ◌∷◌, get_or, drop, remove, Option, Some, None, slice_get, unwrap_or, sym, ap, ◌∙◌, arith}
use Rattle.std.proofs.lemmas.Option.{get_or_from_slice_get}

module _ {A : Type 0} where
  drop_first : (l : List A) (n : ℕ) (a : A) → slice_get l n ≡ Some a → drop n l ≡ a ∷ drop (n + 1) l
  drop_first [] n a e = cc
  drop_first (x ∷ xs) zero a e = ap (λ (o : Option A). first_of x o ∷ xs) e
    where
      first_of : A → Option A → A
      first_of d None = d
      first_of d (Some y) = y
  drop_first (x ∷ xs) (suc n) a e = drop_first xs n a e
      ∙ ap (λ (k : ℕ). a ∷ drop k (x ∷ xs)) (let same : suc (n + 1) ≡ suc n + 1 = omega arith in same)

  pub removed : (l items : List A) (n : ℕ) (a r : A) → slice_get l n ≡ Some a → items ≡ drop n l →
      r ≡ get_or items 0 r → r ≡ a
  removed l items n a r at is first = first ∙ ap (λ (m : List A). get_or m 0 r) (is ∙ drop_first l n a at)

  pub left_over : (l items items' : List A) (n : ℕ) (a : A) → slice_get l n ≡ Some a → items ≡ drop n l →
      items' ≡ remove items 0 → items' ≡ drop (n + 1) l
  left_over l items items' n a at is gone = gone ∙ ap (λ (m : List A). remove m 0) (is ∙ drop_first l n a at)

  -- what is read at place i
  pub found : (l : List (Option A)) (i : ℕ) (a x : A) (r : Option A) → slice_get l i ≡ Some (Some a) →
      r ≡ get_or l i r → r ≡ Some x → a ≡ x
  found l i a x r at read is = ap (λ (o : Option A). unwrap_or o a)
      (sym (get_or_from_slice_get l i (Some a) r at) ∙ (sym read ∙ is))
