-- Members of lists, lists in order, and a list from a place on.
use Rattle.std.proofs.Common.{◌≡◌, ◌≢◌, ℕ, ◌⊎◌, inl, inr, List, [], ◌∷◌, drop, zero, suc, Option, Some, None, refl, sym, ap, subst, arith}
use Rattle.std.specs.Prelude.{AllPairs, Contains}
use Rattle.std.specs.List.{slice_get}
use Rattle.std.proofs.lemmas.Bool.{cases_lt}
use Rattle.std.proofs.lemmas.Option.{none-some, same_Some}
use Rattle.std.proofs.lemmas.List.Elements.{Contains-append_right, Contains-append_cases, Contains-push_cases}

pub is_or_not : (k i : ℕ) → (k ≡ i) ⊎ (k ≢ i)
is_or_not k i = elim (cases_lt k i) [
  | inl below ↦ let not : k ≢ i = omega arith in inr not
  | inr at ↦ elim (cases_lt i k) [
    | inl above ↦ let not : k ≢ i = omega arith in inr not
    | inr same ↦ inl (omega arith)
  ]
]

pub no_member : {X : Type 0} (x : X) → Contains {X = X} [] x → ⊥
no_member x (k, h, e) = absurd (omega arith)

pub member_head : {X : Type 0} (x : X) (xs : List X) → Contains (x ∷ xs) x
member_head x xs = (0, omega arith, refl)

pub member_tail : {X : Type 0} (y : X) (xs : List X) (x : X) → Contains xs x → Contains (y ∷ xs) x
member_tail y xs x h = Contains-append_right (y ∷ []) xs x h

pub member_cases : {X : Type 0} (y : X) (xs : List X) (x : X) → Contains (y ∷ xs) x → (y ≡ x) ⊎ Contains xs x
member_cases y xs x h =
    elim (Contains-append_cases (y ∷ []) xs x h) [
      | inr tail ↦ inr tail
      | inl head ↦ elim (Contains-push_cases [] y x head) [
        | inl none ↦ absurd (no_member x none)
        | inr is ↦ inl is
      ]
    ]

pub pairs_tail : {X : Type 0} (R : X → X → Type 0) (x : X) (xs : List X) → AllPairs R (x ∷ xs) → AllPairs R xs
pairs_tail R x xs h = λ i j d below small. h (suc i) (suc j) d (omega arith) (omega arith)

pub pairs_head : {X : Type 0} (R : X → X → Type 0) (x : X) (xs : List X) → AllPairs R (x ∷ xs) → (y : X) →
    Contains xs y → R x y
pairs_head R x xs h y (k, small, is) = subst (R x) is (h 0 (suc k) y (omega arith) (omega arith))

pub pairs_drop : {X : Type 0} (R : X → X → Type 0) (n : ℕ) (xs : List X) → AllPairs R xs → AllPairs R (drop n xs)
pairs_drop R zero xs h = h
pairs_drop R (suc n) [] h = h
pairs_drop R (suc n) (x ∷ xs) h = pairs_drop R n xs (pairs_tail R x xs h)

pub drop_next : {X : Type 0} (xs : List X) (p : ℕ) (x : X) → slice_get xs p ≡ Some x → drop p xs ≡ x ∷ drop (suc p) xs
drop_next {X = X} [] p x is = absurd (none-some x is)
drop_next {X = X} (y ∷ ys) zero x is = ap (λ (z : X). z ∷ ys) (same_Some y x is)
drop_next {X = X} (y ∷ ys) (suc p) x is = drop_next ys p x is

pub drop_ends : {X : Type 0} (xs : List X) (p : ℕ) → slice_get xs p ≡ None → drop p xs ≡ []
drop_ends [] zero is = refl
drop_ends [] (suc p) is = refl
drop_ends (y ∷ ys) zero is = absurd (none-some y (sym is))
drop_ends (y ∷ ys) (suc p) is = drop_ends ys p is

pub next_member : {X : Type 0} (xs : List X) (p : ℕ) (x : X) → slice_get xs p ≡ Some x → Contains xs x
next_member [] p x is = absurd (none-some x is)
next_member (y ∷ ys) zero x is = subst (Contains (y ∷ ys)) (same_Some y x is) (member_head y ys)
next_member (y ∷ ys) (suc p) x is = member_tail y ys x (next_member ys p x is)

-- at a place there is no element or one
pub next_cases : {X : Type 0} (o : Option X) → (o ≡ None) ⊎ ((x : X) × (o ≡ Some x))
next_cases None = inl refl
next_cases (Some x) = inr (x, refl)
