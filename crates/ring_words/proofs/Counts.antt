-- Numbers of blocks in their buffers, and beginnings of a list.
use Rattle.std.proofs.Common.{◌≡◌, ◌≢◌, ℕ, zero, suc, ◌+◌, ◌-◌, ◌%◌, ◌<◌, ◌≤◌, List, [], ◌∷◌, ◌++◌, length, sym, refl, ap, ◌∙◌, subst, arith, length-append, append_assoc}
use Rattle.std.proofs.Math.Nat.{add-mod_right, mod-eq_of_lt, mod-le}
use mathlib.Core.Option.{some, some-injective, some-ne-none}
use mathlib.Core.Logic.{dite}
use native.Mathlib.Decide.{dec_le}
use lib.ListN.{get_elem?}
use Rattle.atomic_table.proofs.Lists.{one_turn}
use Rattle.ring_blocks.specs.declared.Entry.{Entry}
use Rattle.ring_words.specs.Ring.{IsNewest, Begins}

-- the block that is sealed now is the newest in its buffer
pub newest_here : (b h h' : ℕ) → 0 < b → h' ≡ h + 1 → IsNewest b h' (h % b) (h + 1)
newest_here b h h' pos is = record {
  none = λ e. absurd (omega arith);
  last = λ m e. let same : h ≡ m = omega arith in (ap (λ (x : ℕ). x % b) (sym same), omega arith, omega arith);
}

-- and the newest of each other buffer stays
pub newest_else : (b h h' k n : ℕ) → 0 < b → h' ≡ h + 1 → k < b → k ≢ h % b → IsNewest b h k n → IsNewest b h' k n
newest_else b h h' k n pos is small other old = record {
  none = λ e. let short = old.none e in let apart : k ≢ h = λ same.
      other (same ∙ sym (mod-eq_of_lt (subst (λ (x : ℕ). x < b) same small))) in omega arith;
  last = λ m e. let l = old.last m e in let below = l.1 in let near = l.2 in
      let apart : h ≢ m + b = λ same. other (sym l.0 ∙ (sym (add-mod_right m b)
      ∙ ap (λ (x : ℕ). x % b) (sym same))) in (l.0, omega arith, omega arith);
}

-- in the buffer of the block to be sealed next, the newest is a whole round behind it
pub newest_next : (b h n : ℕ) → 0 < b → IsNewest b h (h % b) n → n ≡ (h + 1) - b
newest_next b h zero pos old = let short = old.none refl in let small : h % b < b = omega arith in omega arith
newest_next b h (suc m) pos old = let l = old.last m (omega arith) in let below = l.1 in let near = l.2 in
    let same : h ≡ m + b = one_turn h (m + b) b (omega arith) (omega arith) (sym l.0 ∙ sym (add-mod_right m b)) in
    omega arith

-- in the buffer of the block that a reader comes to, no block is newer than that one
pub newest_own : (b h c n : ℕ) → 0 < b → h ≤ c + b → IsNewest b h (c % b) n → n ≤ c + 1
newest_own b h c zero pos near old = omega arith
newest_own b h c (suc m) pos near old = dite (dec_le m c) (λ le. omega arith)
    (λ more. let l = old.last m (omega arith) in let below = l.1 in
    let same : c ≡ m = one_turn c m b (omega arith) (omega arith) (sym l.0) in omega arith)

-- where that block was sealed, it is the newest
pub newest_reached : (b h c n : ℕ) → 0 < b → c < h → h ≤ c + b → IsNewest b h (c % b) n → n ≡ c + 1
newest_reached b h c zero pos less near old = let short = old.none refl in let small : c % b ≤ c = mod-le c b in
    omega arith
newest_reached b h c (suc m) pos less near old = let l = old.last m (omega arith) in let below = l.1 in
    let close = l.2 in let most : suc m ≤ c + 1 = newest_own b h c (suc m) pos near old in
    let same : m ≡ c = one_turn m c b (omega arith) (omega arith) l.0 in omega arith

-- two blocks less than a round apart are in different buffers
pub apart : (b c h : ℕ) → c < h → h < c + b → h % b ≢ c % b
apart b c h less near same = let e : c ≡ h = one_turn c h b (omega arith) near (sym same) in omega arith

module _ {A : Type 0} where
  pub at_below : (xs : List A) (i : ℕ) (a : A) → get_elem? xs i ≡ some a → i < length xs
  at_below [] i a e = absurd (some-ne-none a (sym e))
  at_below (x ∷ xs) zero a e = omega arith
  at_below (x ∷ xs) (suc i) a e = let below = at_below xs i a e in omega arith

  pub same_at : (xs : List A) (i : ℕ) (a b : A) → get_elem? xs i ≡ some a → get_elem? xs i ≡ some b → a ≡ b
  same_at xs i a b p q = some-injective a b (sym p ∙ q)

  -- the element at the seam
  seam : (xs ys : List A) (a : A) → get_elem? (xs ++ ys) (length xs) ≡ some a → (rest : List A) × (ys ≡ a ∷ rest)
  seam [] [] a e = absurd (some-ne-none a (sym e))
  seam [] (y ∷ ys) a e = (ys, ap (λ (z : A). z ∷ ys) (some-injective y a e))
  seam (x ∷ xs) ys a e = seam xs ys a e

pub begins_short : (xs ys : List Entry) → Begins xs ys → length xs ≤ length ys
begins_short xs ys p = let e = ap (λ (l : List Entry). length l) p.1 in omega (arith, length-append xs p.0)

pub begins_more : (xs ys more : List Entry) → Begins xs ys → Begins xs (ys ++ more)
begins_more xs ys more p = (p.0 ++ more, ap (λ (l : List Entry). l ++ more) p.1 ∙ append_assoc xs p.0 more)

-- the next element is cleared too
pub begins_next : (xs ys : List Entry) (e : Entry) → Begins xs ys → get_elem? ys (length xs) ≡ some e →
    Begins (xs ++ e ∷ []) ys
begins_next xs ys e p at = let t = seam xs p.0 e (subst
    (λ (l : List Entry). get_elem? l (length xs) ≡ some e) p.1 at) in
    (t.0, p.1 ∙ (ap (λ (l : List Entry). xs ++ l) t.1 ∙ sym (append_assoc xs (e ∷ []) t.0)))
