-- Lists made from a function of the place, and elements read in two ways.
use Rattle.std.proofs.Common.{◌≡◌, ◌≢◌, ℕ, zero, suc, ◌<◌, List, [], ◌∷◌, ◌++◌, length, set, replicate, Some, slice_get, sym, refl, ap, ◌∙◌, subst, arith, length-append, Option, get_or, None}
use Rattle.std.proofs.lemmas.Option.{slice_get_within}
use mathlib.Core.Option.{some, some-injective, some-ne-none}
use mathlib.Core.Logic.{dite}
use native.Mathlib.Decide.{ℕ_discrete}
use lib.ListN.{get_elem?}
use Rattle.atomic_table.proofs.Lists.{at_last, at_longer}
use Rattle.ring_words.specs.Views.{listed}

module _ {A : Type 0} where
  -- the two ways of reading an element
  pub got_at : (l : List A) (i : ℕ) (a : A) → get_elem? l i ≡ some a → slice_get l i ≡ Some a
  got_at [] i a e = absurd (some-ne-none a (sym e))
  got_at (x ∷ xs) zero a e = ap (λ (y : A). Some y) (some-injective x a e)
  got_at (x ∷ xs) (suc i) a e = got_at xs i a e

  pub at_or : (l : List A) (i : ℕ) (d : A) → i < length l → get_elem? l i ≡ some (get_or l i d)
  at_or [] i d h = absurd (omega arith)
  at_or (x ∷ xs) zero d h = refl
  at_or (x ∷ xs) (suc i) d h = at_or xs i d (omega arith)

  pub at_from_option : (l : List (Option A)) (i : ℕ) (a : A) → get_or l i None ≡ Some a → get_elem? l i ≡ some (Some a)
  at_from_option [] i a e = cc
  at_from_option (x ∷ xs) zero a e = ap (λ (o : Option A). some o) e
  at_from_option (x ∷ xs) (suc i) a e = at_from_option xs i a e

  set_before : (l : List A) (a x : A) (i : ℕ) → i < length l → set (l ++ a ∷ []) i x ≡ set l i x ++ a ∷ []
  set_before [] a x i h = absurd (omega arith)
  set_before (y ∷ ys) a x zero h = refl
  set_before (y ∷ ys) a x (suc i) h = ap (λ (l : List A). y ∷ l) (set_before ys a x i (omega arith))

  set_last : (l : List A) (a x : A) (i : ℕ) → length l ≡ i → set (l ++ a ∷ []) i x ≡ l ++ x ∷ []
  set_last [] a x zero e = refl
  set_last [] a x (suc i) e = absurd (omega arith)
  set_last (y ∷ ys) a x zero e = absurd (omega arith)
  set_last (y ∷ ys) a x (suc i) e = ap (λ (l : List A). y ∷ l) (set_last ys a x i (omega arith))

  replicate_last : (n : ℕ) (a : A) → replicate n a ++ a ∷ [] ≡ a ∷ replicate n a
  replicate_last zero a = refl
  replicate_last (suc n) a = ap (λ (l : List A). a ∷ l) (replicate_last n a)

  pub length-listed : (f : ℕ → A) (n : ℕ) → length (listed f n) ≡ n
  length-listed f zero = refl
  length-listed f (suc n) = let e = length-listed f n in omega (arith, length-append (listed f n) (f n ∷ []))

  pub at_listed : (f : ℕ → A) (n i : ℕ) → i < n → get_elem? (listed f n) i ≡ some (f i)
  at_listed f zero i h = absurd (omega arith)
  at_listed f (suc n) i h = dite (ℕ_discrete i n)
      (λ same. subst (λ (k : ℕ). get_elem? (listed f n ++ f n ∷ []) k ≡ some (f k)) (sym same)
      (at_last (listed f n) (f n) n (length-listed f n)))
      (λ other. at_longer (listed f n) (f n ∷ []) i (f i) (at_listed f n i (omega arith)))

  pub listed_at : (f : ℕ → A) (n i : ℕ) (a : A) → slice_get (listed f n) i ≡ Some a → (i < n) × (f i ≡ a)
  listed_at f n i a e = let below = slice_get_within (listed f n) i a e in let long = length-listed f n in
      let inside : i < n = omega arith in
      let there = got_at (listed f n) i (f i) (at_listed f n i inside) in (inside, cc)

  pub listed_same : (f g : ℕ → A) (n : ℕ) → ((i : ℕ) → i < n → f i ≡ g i) → listed f n ≡ listed g n
  listed_same f g zero same = refl
  listed_same f g (suc n) same = ap (λ (l : List A). l ++ f n ∷ []) (listed_same f g n (λ i h. same i (omega arith)))
      ∙ ap (λ (x : A). listed g n ++ x ∷ []) (same n (omega arith))

  -- two functions that differ at i alone
  pub listed_set : (f g : ℕ → A) (n i : ℕ) (x : A) → i < n → g i ≡ x → ((j : ℕ) → j ≢ i → g j ≡ f j) →
      listed g n ≡ set (listed f n) i x
  listed_set f g zero i x h here others = absurd (omega arith)
  listed_set f g (suc n) i x h here others = dite (ℕ_discrete i n)
      (λ same. ap (λ (l : List A). l ++ g n ∷ []) (listed_same g f n (λ j less. others j (λ e. omega arith)))
      ∙ (ap (λ (y : A). listed f n ++ y ∷ []) (ap g (sym same) ∙ here)
      ∙ sym (set_last (listed f n) (f n) x i (length-listed f n ∙ sym same))))
      (λ other. let long = length-listed f n in let inside : i < n = omega arith in
      let within : i < length (listed f n) = omega arith in
      ap (λ (l : List A). l ++ g n ∷ []) (listed_set f g n i x inside here others)
      ∙ (ap (λ (y : A). set (listed f n) i x ++ y ∷ []) (others n (λ e. other (sym e)))
      ∙ sym (set_before (listed f n) (f n) x i within)))

  pub listed_alike : (a : A) (n : ℕ) → listed (λ _. a) n ≡ replicate n a
  listed_alike a zero = refl
  listed_alike a (suc n) = ap (λ (l : List A). l ++ a ∷ []) (listed_alike a n) ∙ replicate_last n a
