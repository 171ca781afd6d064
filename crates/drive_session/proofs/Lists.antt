-- Lists over ranges.
use Rattle.std.proofs.Common.{◌≡◌, ℕ, zero, suc, ◌+◌, ◌<◌, ◌≤◌, All, List, [], ◌∷◌, Some, length, map, refl, sym, ap, ◌∙◌, subst, arith}
use Rattle.std.specs.Prelude.{slice_get, Option, IfSome}
use Rattle.std.proofs.lemmas.List.FromFn.{length-map-range_with_len, get_or-map-range_with_len}
use Rattle.std.proofs.lemmas.Option.{slice_get_within, get_or_from_slice_get}
use Rattle.std.specs.List.{sum_by, range_with_len}
use Rattle.std.proofs.lemmas.List.Sums.{sum_by-cons}

pub some_at : {X : Type 0} (xs : List X) (k : ℕ) → k < length xs → (x : X) × (slice_get xs k ≡ Some x)
some_at [] k below = absurd (omega (arith, below))
some_at (x ∷ xs) zero below = (x, refl)
some_at (x ∷ xs) (suc k) below = some_at xs k (omega (arith, below))

pub if_some_at : {X : Type 0} (P : X → Type 0) (xs : List (Option X)) (k : ℕ) (x : X) →
    slice_get xs k ≡ Some (Some x) → All (λ at. IfSome at P) xs → P x
if_some_at P xs k x there all =
    let At : Option _ → Type 0 = λ at. IfSome at P in
    subst At (get_or_from_slice_get xs k (Some x) (Some x) there)
    (all k (Some x) (slice_get_within xs k (Some x) there))

pub same_over : {X : Type 0} (f g : ℕ → X) (a n : ℕ) → ((j : ℕ) → a ≤ j → j < a + n → f j ≡ g j) →
    map f (range_with_len a n) ≡ map g (range_with_len a n)
same_over f g a zero same = refl
same_over f g a (suc n) same =
    ap (λ x. x ∷ map f (range_with_len (a + 1) n)) (same a (omega arith) (omega arith))
    ∙ ap (λ xs. g a ∷ xs)
    (same_over f g (a + 1) n (λ j from to. same j (omega (arith, from)) (omega (arith, to))))

-- a list by its places
pub as_map : {X : Type 0} (f : ℕ → X) (a : ℕ) (xs : List X) →
    ((k : ℕ) (x : X) → slice_get xs k ≡ Some x → f (a + k) ≡ x) → xs ≡ map f (range_with_len a (length xs))
as_map f a [] at = refl
as_map f a (x ∷ xs) at =
    let here : a ≡ a + 0 = omega arith in
    ap (λ y. y ∷ xs) (sym (ap f here ∙ at 0 x refl))
    ∙ ap (λ ys. f a ∷ ys) (as_map f (a + 1) xs (λ k y is.
    let there : a + 1 + k ≡ a + suc k = omega arith in
    ap f there ∙ at (suc k) y is))

pub sum_over : {X : Type 0} (g : X → ℕ) (f : ℕ → X) (xs : List ℕ) →
    sum_by g (map f xs) ≡ sum_by (λ k. g (f k)) xs
sum_over g f [] = refl
sum_over g f (x ∷ xs) =
    sum_by-cons g (f x) (map f xs) ∙ ap (λ n. g (f x) + n) (sum_over g f xs)
    ∙ sym (sum_by-cons (λ k. g (f k)) x xs)

pub all_over : {X : Type 0} (P : X → Type 0) (f : ℕ → X) (n : ℕ) → ((j : ℕ) → j < n → P (f j)) →
    All P (map f (range_with_len 0 n))
all_over P f n each k d below =
    let count = length-map-range_with_len f 0 n in
    let within : k < n = omega (arith, below, count) in
    subst P (sym (get_or-map-range_with_len f 0 n k k d within (omega arith))) (each k within)
