-- Lists of entries, and beginnings of lists.
use Rattle.std.proofs.Common.{◌≡◌, ◌⊎◌, inl, inr, List, [], ◌∷◌, ◌++◌, refl, sym, ap, ◌∙◌, append_assoc}
use mathlib.Core.List.{IsPrefix}

-- a beginning of a list with a last element is all of it, or leaves that element
pub front_of_last : {A : Type 0} (front rest init : List A) (z : A) → front ++ rest ≡ init ++ z ∷ [] →
    (rest ≡ []) ⊎ ((left : List A) × (rest ≡ left ++ z ∷ []) × (front ++ left ≡ init))
front_of_last [] rest init z e = inr (init, e, refl)
front_of_last (x ∷ xs) rest [] z e = inl (nothing_left xs rest cc)
  where
    nothing_left : {A : Type 0} (xs rest : List A) → xs ++ rest ≡ [] → rest ≡ []
    nothing_left [] rest e = e
    nothing_left (x ∷ xs) rest e = cc
front_of_last (x ∷ xs) rest (y ∷ ys) z e = elim (front_of_last xs rest ys z cc) [
  | inl none ↦ inl none
  | inr more ↦ inr (more.0, more.1, let same : x ≡ y = cc in ap (λ l. x ∷ l) more.2 ∙ ap (λ a. a ∷ ys) same)
]

pub prefix_trans : {A : Type 0} (xs ys zs : List A) → IsPrefix xs ys → IsPrefix ys zs → IsPrefix xs zs
prefix_trans xs ys zs first second =
    (first.0 ++ second.0, sym (append_assoc xs first.0 second.0) ∙ (ap (λ l. l ++ second.0) first.1 ∙ second.1))

pub prefix_append : {A : Type 0} (xs ys zs : List A) → IsPrefix ys zs → IsPrefix (xs ++ ys) (xs ++ zs)
prefix_append xs ys zs first = (first.0, append_assoc xs ys first.0 ∙ ap (λ l. xs ++ l) first.1)
