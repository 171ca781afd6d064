-- A status of which is known that it is in a list.
use Rattle.std.proofs.Common.{◌≡◌, ◌≢◌, ◌⊎◌, ℕ, zero, suc, ◌<◌, List, [], ◌∷◌, Contains, refl, inl, inr, sym, ap, ◌∙◌, true, false, arith}
use Rattle.std.specs.Prelude.{Bool}
use Rattle.std.specs.List.{list_any, list_all}
use Rattle.std.proofs.Math.Dec.{eqb}
use Rattle.std.proofs.lemmas.List.Folds.{list_all_at}
use Rattle.std.proofs.lemmas.Map.Views.{Contains-from_any, exact_unsigned_eq}

-- it is one of them
abbrev pub OneOf : List ℕ → ℕ → Type 0
OneOf [] n = ⊥
OneOf (x ∷ xs) n = (n ≡ x) ⊎ OneOf xs n

pub one_of : (xs : List ℕ) (n : ℕ) → Contains xs n → OneOf xs n
one_of [] n (k, below, is) = omega (arith, below)
one_of (x ∷ xs) n (zero, below, is) = inl (sym is)
one_of (x ∷ xs) n (suc k, below, is) = inr (one_of xs n (k, omega (arith, below), is))

-- it is in a list that has all of them
pub among : (xs ys : List ℕ) (n : ℕ) → Contains xs n → list_all (λ k. list_any (eqb k) ys) xs ≡ true → Contains ys n
among xs ys n (k, below, is) all = Contains-from_any exact_unsigned_eq n ys (by_test (list_any (eqb n) ys) refl)
  where
    by_test : (b : Bool) → list_any (eqb n) ys ≡ b → b ≡ true
    by_test true has = refl
    by_test false lacks =
        let none = list_all_at (λ i. list_any (eqb i) ys) xs k n below (ap (λ i. list_any (eqb i) ys) is ∙ lacks) in
        absurd cc

-- that all data were sealed tells it from those between
pub apart : (n m : ℕ) → Contains (0 ∷ 9 ∷ 10 ∷ 11 ∷ []) n → 0 < m → m < 9 → n ≢ m
apart n m known some few e = omega (arith, one_of (0 ∷ 9 ∷ 10 ∷ 11 ∷ []) n known, some, few, e)
