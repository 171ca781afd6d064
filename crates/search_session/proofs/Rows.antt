-- Lists of which one element is written, or the first is taken, again and again.
use Rattle.std.proofs.Common.{◌≡◌, ◌≢◌, ℕ, zero, suc, ◌+◌, ◌<◌, ◌≤◌, List, [], ◌∷◌, ◌++◌, length, get_or, take, drop, remove, slice_set, Option, Some, slice_get, refl, sym, ap, ◌∙◌, arith}
use Rattle.std.specs.Prelude.{All}
use Rattle.std.proofs.lemmas.Option.{get_or_from_slice_get, slice_get_within, slice_get-get_or}
use Rattle.std.proofs.lemmas.List.{drop_more, length-set, get_or-set_same, take_all, take-append-le}

-- what holds of all is true of one
pub all_at : {A : Type 0} (P : A → Type 0) (xs : List A) (k : ℕ) (x : A) → slice_get xs k ≡ Some x → All P xs → P x
all_at P xs k x at all = rw (get_or_from_slice_get xs k x x at) at (all k x (slice_get_within xs k x at))

-- a place has one element
pub one_at : {A : Type 0} (xs : List (Option A)) (k : ℕ) (x y : A) → slice_get xs k ≡ Some (Some x) →
    slice_get xs k ≡ Some (Some y) → x ≡ y
one_at xs k x y at also = let e = sym at ∙ also in cc

module _ {A : Type 0} where
  -- ---- an element is written

  pub get_set_same : (xs : List A) (k : ℕ) (b : A) → k < length xs → slice_get (slice_set xs k b) k ≡ Some b
  get_set_same xs k b near =
      let long = length-set xs k b in
      rw (slice_get-get_or (slice_set xs k b) k b (omega arith), get_or-set_same xs k b b near) refl

  pub get_set_other : (xs : List A) (k j : ℕ) (b : A) → j ≢ k → slice_get (slice_set xs k b) j ≡ slice_get xs j
  get_set_other [] zero j b other = refl
  get_set_other [] (suc k) j b other = refl
  get_set_other (x ∷ xs) zero zero b other = absurd (other refl)
  get_set_other (x ∷ xs) zero (suc j) b other = refl
  get_set_other (x ∷ xs) (suc k) zero b other = refl
  get_set_other (x ∷ xs) (suc k) (suc j) b other = get_set_other xs k j b (λ same. other (ap suc same))

  -- all elements are written
  pub all_written : (n : ℕ) (xs ws : List A) → length ws ≡ n → take n (ws ++ drop (length ws) xs) ≡ ws
  all_written n xs ws long =
      let most : n ≤ length ws = omega arith in
      rw (take-append-le n ws (drop (length ws) xs) most) (take_all n ws (omega arith))

  -- ---- the first is taken

  pub removed : (l items : List A) (n : ℕ) (a r : A) → slice_get l n ≡ Some a → items ≡ drop n l →
      r ≡ get_or items 0 r → r ≡ a
  removed l items n a r at is first =
      let more = drop_more l n r (slice_get_within l n a at) in
      first ∙ rw (is, more) (get_or_from_slice_get l n a r at)

  pub first_left : (l : List A) (n : ℕ) (a : A) → slice_get l n ≡ Some a → slice_get (drop n l) 0 ≡ Some a
  first_left l n a at =
      rw (drop_more l n a (slice_get_within l n a at), get_or_from_slice_get l n a a at) refl

  pub left_over : (l items items' : List A) (n : ℕ) (r : A) → n < length l → items ≡ drop n l →
      items' ≡ remove items 0 → items' ≡ drop (n + 1) l
  left_over l items items' n r near is gone = gone ∙ rw (is, drop_more l n r near) refl

  -- ---- one is added at the end

  pub longer : (l m : List A) (i : ℕ) (a : A) → slice_get l i ≡ Some a → slice_get (l ++ m) i ≡ Some a
  longer [] m i a e = cc
  longer (x ∷ xs) m zero a e = e
  longer (x ∷ xs) m (suc i) a e = longer xs m i a e

  pub at_end : (l : List A) (a : A) (n : ℕ) → length l ≡ n → slice_get (l ++ a ∷ []) n ≡ Some a
  at_end [] a zero e = refl
  at_end [] a (suc n) e = absurd (omega arith)
  at_end (x ∷ xs) a zero e = absurd (omega arith)
  at_end (x ∷ xs) a (suc n) e = at_end xs a n (omega arith)
