-- Lists from which the first element is taken, again and again.
use Rattle.std.proofs.Common.{◌≡◌, ℕ, zero, suc, ◌+◌, ◌<◌, List, [], ◌∷◌, ◌++◌, length, get_or, drop, remove, Some, slice_get, refl, ap, ◌∙◌, arith}
use Rattle.std.proofs.lemmas.Option.{get_or_from_slice_get, slice_get_within}
use Rattle.std.proofs.lemmas.List.{drop_more}

module _ {A : Type 0} where
  -- what was taken out at place n
  pub removed : (l items : List A) (n : ℕ) (a r : A) → slice_get l n ≡ Some a → items ≡ drop n l →
      r ≡ get_or items 0 r → r ≡ a
  removed l items n a r at is first = first ∙ (ap (λ (m : List A). get_or m 0 r)
      (is ∙ drop_more l n r (slice_get_within l n a at)) ∙ get_or_from_slice_get l n a r at)

  pub left_over : (l items items' : List A) (n : ℕ) (r : A) → n < length l → items ≡ drop n l →
      items' ≡ remove items 0 → items' ≡ drop (n + 1) l
  left_over l items items' n r near is gone = gone ∙ ap (λ (m : List A). remove m 0) (is ∙ drop_more l n r near)

  pub longer : (l m : List A) (i : ℕ) (a : A) → slice_get l i ≡ Some a → slice_get (l ++ m) i ≡ Some a
  longer [] m i a e = cc
  longer (x ∷ xs) m zero a e = e
  longer (x ∷ xs) m (suc i) a e = longer xs m i a e

  pub at_end : (l : List A) (a : A) (n : ℕ) → length l ≡ n → slice_get (l ++ a ∷ []) n ≡ Some a
  at_end [] a zero e = refl
  at_end [] a (suc n) e = absurd (omega arith)
  at_end (x ∷ xs) a zero e = absurd (omega arith)
  at_end (x ∷ xs) a (suc n) e = at_end xs a n (omega arith)
