-- The shift of a row in the first and in the second half of twice as many rows.
use Rattle.std.proofs.Common.{◌≡◌, ℕ, ◌+◌, ◌-◌, ◌*◌, ◌/◌, ◌%◌, ◌^◌, ◌==◌, ◌<◌, sum_by, sym, ap, ◌∙◌, arith, if◌then◌else◌}
use Rattle.std.specs.List.{range_with_len}
use Rattle.std.proofs.lemmas.Nat.{shr-shr, div-mul-add, pow_pos, pow-add}
use Rattle.std.proofs.Math.Nat.{div-eq_of_lt, div-one, add-mul-div_left}
use Rattle.search_model.specs.Folds.{shift}
use Rattle.fast_fold.proofs.Ranges.{same_terms, split_terms, one_term}

-- what the bit of worth 2^e of row i adds to the shift of trial j at step k
part : ℕ → ℕ → ℕ → ℕ → ℕ
part i e j k = if (i / 2 ^ e) % 2 == 1 then (j / 2 ^ k + 1) / 2 else 0

-- half the trial, a step less
half_less : (i r j k : ℕ) → part i (r + 1 - 1 - (1 + k)) j (1 + k) ≡ part i (r - 1 - k) (j / 2) k
unfolding part
half_less i r j k =
    ap (λ e. if (i / 2 ^ e) % 2 == 1 then (j / 2 ^ (1 + k) + 1) / 2 else 0)
    (let e : r + 1 - 1 - (1 + k) ≡ r - 1 - k = omega arith in e)
    ∙ ap (λ x. if (i / 2 ^ (r - 1 - k)) % 2 == 1 then (x + 1) / 2 else 0) (sym (shr-shr j 1 k))

-- the first step, and the others
steps : (r j i : ℕ) → shift (r + 1) j i ≡ part i r j 0 + sum_by (λ k. part i (r - 1 - k) (j / 2) k) (range_with_len 0 r)
unfolding part
steps r j i =
    let f : ℕ → ℕ = λ k. part i (r + 1 - 1 - k) j k in
    ap (λ n. sum_by f (range_with_len 0 n)) (let e : r + 1 ≡ 1 + r = omega arith in e)
    ∙ split_terms f 1 r
    ∙ ap (λ s. s + sum_by (λ k. f (1 + k)) (range_with_len 0 r)) (one_term f)
    ∙ ap (λ e. part i e j 0 + sum_by (λ k. f (1 + k)) (range_with_len 0 r))
    (let e : r + 1 - 1 - 0 ≡ r = omega arith in e)
    ∙ ap (λ s. part i r j 0 + s)
    (same_terms (λ k. f (1 + k)) (λ k. part i (r - 1 - k) (j / 2) k) r (λ k h. half_less i r j k))

-- a row of the first half
pub shift_low : (r j i : ℕ) → i < 2 ^ r → shift (r + 1) j i ≡ shift r (j / 2) i
unfolding part
shift_low r j i lt =
    let none : i / 2 ^ r ≡ 0 = div-eq_of_lt lt in
    steps r j i ∙ ap (λ x. (if x % 2 == 1 then (j / 2 ^ 0 + 1) / 2 else 0) + shift r (j / 2) i) none ∙ omega arith

-- a bit is not changed by a multiple of twice its worth
lower_bit : (r i k : ℕ) → k < r → ((2 ^ r + i) / 2 ^ (r - 1 - k)) % 2 ≡ (i / 2 ^ (r - 1 - k)) % 2
lower_bit r i k lt =
    let e : ℕ = r - 1 - k in
    let twice : 2 ^ (1 + k) ≡ 2 * 2 ^ k = pow-add 2 1 k in
    let exponent : r ≡ e + (1 + k) = omega arith in
    let whole : 2 ^ r ≡ 2 ^ e * (2 * 2 ^ k) =
    ap (λ n. 2 ^ n) exponent ∙ pow-add 2 e (1 + k) ∙ ap (λ x. 2 ^ e * x) twice in
    let sum : 2 ^ r + i ≡ i + 2 ^ e * (2 * 2 ^ k) = omega (arith, whole) in
    let quotient : (2 ^ r + i) / 2 ^ e ≡ i / 2 ^ e + 2 * 2 ^ k =
    ap (λ x. x / 2 ^ e) sum ∙ add-mul-div_left i (2 * 2 ^ k) (pow_pos e) in
    ap (λ x. x % 2) quotient ∙ even (i / 2 ^ e) (2 ^ k)
  where
    even : (x y : ℕ) → (x + 2 * y) % 2 ≡ x % 2
    even x y = omega arith

-- a row of the second half
pub shift_high : (r j i : ℕ) → i < 2 ^ r → shift (r + 1) j (2 ^ r + i) ≡ (j + 1) / 2 + shift r (j / 2) i
unfolding part
shift_high r j i lt =
    let one : (2 ^ r + i) / 2 ^ r ≡ 1 =
    ap (λ x. (x + i) / 2 ^ r) (let e : 2 ^ r ≡ 1 * 2 ^ r = omega arith in e) ∙ div-mul-add 1 (2 ^ r) i lt in
    let rest = same_terms (λ k. part (2 ^ r + i) (r - 1 - k) (j / 2) k) (λ k. part i (r - 1 - k) (j / 2) k) r
    (λ k h. ap (λ b. if b == 1 then (j / 2 / 2 ^ k + 1) / 2 else 0) (lower_bit r i k h)) in
    steps r j (2 ^ r + i)
    ∙ ap (λ x. (if x % 2 == 1 then (j / 2 ^ 0 + 1) / 2 else 0)
    + sum_by (λ k. part (2 ^ r + i) (r - 1 - k) (j / 2) k) (range_with_len 0 r)) one
    ∙ ap (λ s. (j / 1 + 1) / 2 + s) rest
    ∙ ap (λ x. (x + 1) / 2 + shift r (j / 2) i) (div-one j)
