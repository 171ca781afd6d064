-- Lanes of 32 bytes that are compared.
use Rattle.std.proofs.Common.{◌≡◌, ℕ, ◌+◌, ◌-◌, ◌<◌, inl, inr, Bool, false, List, length, slice_index, get_or, cond, eqb, ltb, sym, ap, ◌∙◌, arith}
use lib.Lanes.{zip2, sel_l}
use Rattle.std.proofs.lemmas.Bool.{cases_lt, lt-ltb, le-ltb, eqb-true, cond_both}
use Rattle.std.proofs.lemmas.Simd.{length-zip2, length-sel_l, get_or-sel_l, get_or-zip2}
use Rattle.ring_bench.specs.Full.{AreZero, IsFullTo}

-- how many lanes are chosen
pub chosen_long : (test : ℕ → ℕ → Bool) (a b x y : List ℕ) → length a ≡ 32 → length b ≡ 32 → length x ≡ 32
    → length y ≡ 32 → length (sel_l (zip2 test a b) x y) ≡ 32
chosen_long test a b x y in_a in_b in_x in_y =
    let long = length-zip2 test a b (omega arith) in
    omega (arith, length-sel_l (zip2 test a b) x y (omega arith) (omega arith))

-- a lane that is chosen by a test
pub chosen : (test : ℕ → ℕ → Bool) (a b x y : List ℕ) (k : ℕ) → length a ≡ 32 → length b ≡ 32 → length x ≡ 32
    → length y ≡ 32 → k < 32
    → get_or (sel_l (zip2 test a b) x y) k 0 ≡ cond (test (get_or a k 0) (get_or b k 0)) (get_or x k 0) (get_or y k 0)
chosen test a b x y k in_a in_b in_x in_y lane =
    let long = length-zip2 test a b (omega arith) in
    get_or-sel_l (zip2 test a b) x y k 0 (omega arith) (omega arith) (omega arith)
    ∙ ap (λ t. cond t (get_or x k 0) (get_or y k 0)) (get_or-zip2 test a b k 0 0 false (omega arith) (omega arith))

-- where the greater of two numbers is 0, both are
pub both_zero : (x y : ℕ) → cond (ltb x y) y x ≡ 0 → (x ≡ 0) × (y ≡ 0)
both_zero x y is = elim (cases_lt x y) [
  | inl h ↦ absurd (let e : y ≡ 0 = sym (ap (λ t. cond t y x) (lt-ltb x y h)) ∙ is in omega (arith, e, h))
  | inr h ↦
      let e : x ≡ 0 = sym (ap (λ t. cond t y x) (le-ltb x y h)) ∙ is in
      (e, omega (arith, e, h))
]

-- a byte that is not told apart is the same
pub same_byte : (x byte : ℕ) → cond {A = ℕ} (eqb x byte) 0 255 ≡ 0 → x ≡ byte
same_byte x byte =
    cond_both {A = ℕ} (eqb x byte) 0 255 (λ z. z ≡ 0 → x ≡ byte) (λ e _. eqb-true x byte e)
    (λ _ is. absurd (omega (arith, is)))

-- 32 bytes more
pub full_further : (block : List ℕ) (byte at end : ℕ) (lanes : List ℕ) → at + 32 ≡ end → IsFullTo block byte at
    → ((k : ℕ) → k < 32 → slice_index lanes k ≡ 0 → slice_index block (at + k) ≡ byte) → AreZero lanes
    → IsFullTo block byte end
full_further block byte at end lanes is so_far here zero k lt = elim (cases_lt k at) [
  | inl h ↦ so_far k h
  | inr h ↦
      let j : ℕ = k - at in
      let below : j < 32 = omega arith in
      let e : at + j ≡ k = omega arith in
      ap (λ i. slice_index block i) (sym e) ∙ here j below (zero j below)
]
