-- The digits of a number text as a value that is kept at a bound.
use Rattle.std.proofs.Common.{◌≡◌, ℕ, ◌+◌, ◌-◌, ◌*◌, ◌/◌, ◌^◌, ◌<◌, ◌≤◌, zero, suc, min, Bool, true, false, cond, List, [], ◌∷◌, ◌++◌, length, get_or, take, drop, refl, sym, ap, ◌∙◌, arith, inl, inr, length-drop}
use Rattle.std.specs.Prelude.{All, pos, neg_ℤ, unsigned_abs}
use Rattle.std.specs.Char.{IsAsciiDigit, digit_value}
use Rattle.std.specs.Str.Parse.{digits_value, digits_value_after}
use Rattle.std.proofs.lemmas.Bool.{cases_lt}
use Rattle.std.proofs.lemmas.Bool.Decides.{nat_tests}
use Rattle.std.proofs.lemmas.List.{take_more, take_all, take-append-drop}
use Rattle.std.proofs.lemmas.List.Elements.{All-head, All-tail, All-drop}
use Rattle.std.proofs.lemmas.Nat.{le-div, div_below, pow-add}
use Rattle.std.proofs.Math.Nat.{mul-le-mul_right}
use Rattle.psr_base.specs.Spelling.{capped}

pub digits_after : (r n : ℕ) (xs ys : List ℕ) →
    digits_value_after r n (xs ++ ys) ≡ digits_value_after r (digits_value_after r n xs) ys
digits_after r n [] ys = refl
digits_after r n (x ∷ xs) ys = digits_after r (n * r + digit_value x) xs ys

-- one digit more

step_capped : (n d : ℕ) → capped (capped n * 10 + d) ≡ capped (n * 10 + d)
step_capped n d = omega arith

pub digit_more : (n i number : ℕ) (digits : List ℕ) → i < length digits →
    number ≡ capped (digits_value_after 10 n (take i digits)) →
    capped (number * 10 + digit_value (get_or digits i 0)) ≡ capped (digits_value_after 10 n (take (i + 1) digits))
digit_more n i number digits within so_far =
    let more = ap (digits_value_after 10 n) (take_more digits i 0 within)
    ∙ digits_after 10 n (take i digits) (get_or digits i 0 ∷ []) in
    rw (more, so_far) (step_capped (digits_value_after 10 n (take i digits)) (digit_value (get_or digits i 0)))

-- digits after a number

digit_below : (byte : ℕ) → IsAsciiDigit byte → digit_value byte < 10
digit_below byte h = grind (arith, nat_tests)

record IsAfter (n value size : ℕ) : Type 0 where
  least : n * 10 ^ size ≤ value
  below : value < (n + 1) * 10 ^ size

after_bounds : (n : ℕ) (digits : List ℕ) → All IsAsciiDigit digits →
    IsAfter n (digits_value_after 10 n digits) (length digits)
after_bounds n [] h = record { least = omega arith; below = omega arith }
after_bounds n (x ∷ xs) h =
    let digit = digit_below x (All-head IsAsciiDigit x xs h) in
    let m = n * 10 + digit_value x in
    let rest = after_bounds m xs (All-tail IsAsciiDigit x xs h) in
    let size : 10 ^ length (x ∷ xs) ≡ 10 * 10 ^ length xs = grind arith in
    let low : n * 10 * 10 ^ length xs ≤ m * 10 ^ length xs = mul-le-mul_right (10 ^ length xs) (omega arith) in
    let high : (m + 1) * 10 ^ length xs ≤ (n + 1) * 10 * 10 ^ length xs =
    mul-le-mul_right (10 ^ length xs) (omega arith) in
    record { least = rw size (omega (arith, rest.least)); below = rw size (omega (arith, rest.below)) }

-- a quotient by its bounds
pub quotient : (q n d : ℕ) → 0 < d → q * d ≤ n → n < (q + 1) * d → n / d ≡ q
quotient q n d some low high =
    let least = le-div q n d some low in
    let most = div_below n d (q + 1) some high in
    omega arith

pub pow_some : (k : ℕ) → 1 ≤ 10 ^ k
pow_some zero = omega arith
pow_some (suc k) = let some = pow_some k in let next : 10 ^ suc k ≡ 10 * 10 ^ k = grind arith in rw next (omega arith)

-- further digits are dropped
module _ (n k : ℕ) (fraction : List ℕ) (digits : All IsAsciiDigit fraction) where
  dropped : k ≤ length fraction →
      digits_value_after 10 n fraction * 10 ^ k / 10 ^ length fraction ≡ digits_value_after 10 n (take k fraction)
  dropped long =
      let kept = digits_value_after 10 n (take k fraction) in
      let value = digits_value_after 10 n fraction in
      let rest = length fraction - k in
      let is : value ≡ digits_value_after 10 kept (drop k fraction) =
      ap (digits_value_after 10 n) (sym (take-append-drop k fraction))
      ∙ digits_after 10 n (take k fraction) (drop k fraction) in
      let bounds = after_bounds kept (drop k fraction) (All-drop IsAsciiDigit k fraction digits) in
      let short : length (drop k fraction) ≡ rest = length-drop k fraction in
      let low : kept * 10 ^ rest ≤ value = rw (is, ← short) bounds.least in
      let high : value < (kept + 1) * 10 ^ rest = rw (is, ← short) bounds.below in
      let whole : length fraction ≡ rest + k = omega arith in
      let size : 10 ^ length fraction ≡ 10 ^ rest * 10 ^ k = ap (λ m. 10 ^ m) whole ∙ pow-add 10 rest k in
      let scaled_low : kept * 10 ^ rest * 10 ^ k ≤ value * 10 ^ k = mul-le-mul_right (10 ^ k) low in
      let scaled_high : (value + 1) * 10 ^ k ≤ (kept + 1) * 10 ^ rest * 10 ^ k =
      mul-le-mul_right (10 ^ k) (omega arith) in
      let some = pow_some k in
      quotient kept (value * 10 ^ k) (10 ^ length fraction) (pow_some (length fraction)) (rw size (omega arith))
      (rw size (omega arith))

  extended : length fraction ≤ k →
      digits_value_after 10 n fraction * 10 ^ k / 10 ^ length fraction ≡ digits_value_after 10 n
      fraction * 10 ^ (k - length fraction)
  extended short =
      let value = digits_value_after 10 n fraction in
      let rest = k - length fraction in
      let whole : k ≡ rest + length fraction = omega arith in
      let size : 10 ^ k ≡ 10 ^ rest * 10 ^ length fraction = ap (λ m. 10 ^ m) whole
      ∙ pow-add 10 rest (length fraction) in
      let some = pow_some (length fraction) in
      quotient (value * 10 ^ rest) (value * 10 ^ k) (10 ^ length fraction) some (rw size (omega arith))
      (rw size (omega arith))

-- the kept digits and zeros are the scaled number
pub kept_digits : (k kept : ℕ) (whole fraction : List ℕ) → All IsAsciiDigit fraction → kept ≡ min (length fraction) k →
    digits_value_after 10 (digits_value_after 10 0 whole) (take kept fraction) * 10 ^ (k - kept) ≡ digits_value 10
    (whole ++ fraction) * 10 ^ k / 10 ^ length fraction
kept_digits k kept whole fraction digits is =
    let n = digits_value_after 10 0 whole in
    let both : digits_value 10 (whole ++ fraction) ≡ digits_value_after 10 n fraction =
    digits_after 10 0 whole fraction in
    elim (cases_lt k (length fraction)) [
      | inl long ↦
          let all : kept ≡ k = omega arith in
          let none : k - k ≡ 0 = omega arith in
          rw (both, all, none, dropped n k fraction digits (omega arith)) (omega arith)
      | inr short ↦
          let all : kept ≡ length fraction = omega arith in
          let same : take (length fraction) fraction ≡ fraction = take_all (length fraction) fraction (omega arith) in
          rw (both, all, same) (sym (extended n k fraction digits short))
    ]

-- ---- the bound

pub uncapped_above : (m n : ℕ) → m ≡ capped n → 10 ^ 18 < m → 10 ^ 18 < n
uncapped_above m n e h = omega arith

pub uncapped_within : (m n : ℕ) → m ≡ capped n → m ≤ 10 ^ 18 → m ≡ n
uncapped_within m n e h = omega arith

pub magnitude_signed : (negative : Bool) (m : ℕ) → unsigned_abs (cond negative (neg_ℤ (pos m)) (pos m)) ≡ m
magnitude_signed true zero = refl
magnitude_signed true (suc m) = refl
magnitude_signed false m = refl
