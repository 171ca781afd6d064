-- The text of a value with a fixed count of decimals, and its value again.
use Rattle.std.proofs.Common.{◌≡◌, ℕ, ◌+◌, ◌-◌, ◌*◌, ◌/◌, ◌%◌, ◌^◌, ◌<◌, ◌≤◌, zero, suc, Bool, true, false, cond, eqb, ltb, List, [], ◌∷◌, ◌++◌, length, replicate, refl, sym, ap, ◌∙◌, arith, append-nil, length-append, Some, inl, inr}
use Rattle.std.specs.Prelude.{All, ℤ, pos, negsuc, neg_ℤ, int_lt, unsigned_abs}
use Rattle.std.specs.Char.{IsAsciiDigit, is_ascii_digit, digit_value}
use Rattle.std.specs.Fmt.{decimal, sign_text}
use Rattle.std.specs.Str.{all_ascii_digits}
use Rattle.std.specs.Str.Parse.{digits_value, digits_value_after}
use Rattle.std.proofs.lemmas.Bool.{and_parts}
use Rattle.std.proofs.lemmas.Bool.Decides.{nat_tests}
use Rattle.std.proofs.lemmas.Fmt.{digits_decimal, decimal_is_IsNumeral, decimal_nonempty, length-decimal-le}
use Rattle.std.proofs.lemmas.List.{length-replicate}
use Rattle.std.proofs.lemmas.List.Elements.{All-cons, All-append}
use Rattle.std.proofs.lemmas.Nat.{div-add-mod', pow-add}
use Rattle.std.proofs.Math.Nat.{div-le_self, mod-lt, div-one, mul-le-mul_right}
use Rattle.std.proofs.lemmas.Str.Parse.{tells_all_ascii_digits, numerals_by_value, IsNumeralModel}
use Rattle.dada_model.specs.Number.{number_value}
use Rattle.dada_model.specs.Laws.{IsSign, Spells, NumbersAreSpelled}
use Rattle.psr_base.specs.Fixed.{padded, unsigned_text, fixed_text}
use Rattle.psr_base.proofs.FixedValue.{digits_after, pow_some, quotient}

-- ---- the digits

own : IsNumeralModel (λ ds. all_ascii_digits ds ≡ true) (digits_value 10)
own = numerals_by_value (λ ds. all_ascii_digits ds ≡ true) tells_all_ascii_digits

digit_from : (byte : ℕ) → is_ascii_digit byte ≡ true → IsAsciiDigit byte
digit_from byte e = (grind (arith, nat_tests), grind (arith, nat_tests))

digits_from : (text : List ℕ) → all_ascii_digits text ≡ true → All IsAsciiDigit text
digits_from [] e = λ k d h. absurd (omega arith)
digits_from (x ∷ xs) e =
    let parts = and_parts (is_ascii_digit x) (all_ascii_digits xs) e in
    All-cons IsAsciiDigit x xs (digit_from x parts.0) (digits_from xs parts.1)

decimal_digits : (n : ℕ) → n < 2 ^ 64 → All IsAsciiDigit (decimal n)
decimal_digits n h = digits_from (decimal n) (digits_decimal own n h)

zeros_digits : (m : ℕ) → All IsAsciiDigit (replicate m 48)
zeros_digits zero = λ k d h. absurd (omega arith)
zeros_digits (suc m) = All-cons IsAsciiDigit 48 (replicate m 48) (omega arith, omega arith) (zeros_digits m)

sign_is : (negative : Bool) → IsSign negative (sign_text negative)
sign_is true = refl
sign_is false = inl refl

padded_digits : (k n : ℕ) → n < 2 ^ 64 → All IsAsciiDigit (padded k n)
padded_digits k n h =
    All-append IsAsciiDigit (replicate (k - length (decimal n)) 48) (decimal n) (zeros_digits (k - length (decimal n)))
    (decimal_digits n h)

-- ---- their value

after_sum : (n : ℕ) (digits : List ℕ) →
    digits_value_after 10 n digits ≡ n * 10 ^ length digits + digits_value_after 10 0 digits
after_sum n [] = omega arith
after_sum n (x ∷ xs) =
    let m = digit_value x in
    let size : 10 ^ length (x ∷ xs) ≡ 10 * 10 ^ length xs = grind arith in
    let first = after_sum (n * 10 + m) xs in
    let second = after_sum (0 * 10 + m) xs in
    rw (size, first, second) (omega arith)

zeros_value : (m : ℕ) (digits : List ℕ) → digits_value 10 (replicate m 48 ++ digits) ≡ digits_value 10 digits
zeros_value zero digits = refl
zeros_value (suc m) digits = zeros_value m digits

padded_value : (k n : ℕ) → n < 2 ^ 64 → digits_value 10 (padded k n) ≡ n
padded_value k n h = zeros_value (k - length (decimal n)) (decimal n) ∙ (decimal_is_IsNumeral n h).1

pub padded_length : (k n : ℕ) → 0 < k → n < 10 ^ k → n < 2 ^ 64 → length (padded k n) ≡ k
padded_length k n some fits h =
    let short = length-decimal-le k n some fits h in
    let zeros = length-replicate {A = ℕ} (k - length (decimal n)) 48 in
    let size = length-append (replicate (k - length (decimal n)) 48) (decimal n) in
    let all : (k - length (decimal n)) + length (decimal n) ≡ k = omega arith in
    size ∙ ap (λ m. m + length (decimal n)) zeros ∙ all

-- ---- what the text spells

tests_some : (k : ℕ) → 0 < k → eqb k 0 ≡ false
tests_some k h = grind (arith, nat_tests)

-- a fraction of k digits
module _ (k n : ℕ) (some : 0 < k) (h : n < 2 ^ 64) (negative : Bool) where
  whole_below : n / 10 ^ k < 2 ^ 64
  whole_below = let less = div-le_self n (10 ^ k) in omega arith

  fraction_below : n % 10 ^ k < 10 ^ k
  fraction_below = let least = pow_some k in mod-lt n (omega arith)

  fraction_small : n % 10 ^ k < 2 ^ 64
  fraction_small = let both = div-add-mod' n (10 ^ k) in omega arith

  spells_fraction : Spells (sign_text negative ++ unsigned_text k n) negative (decimal (n / 10 ^ k))
      (padded k (n % 10 ^ k))
  spells_fraction = record {
    sign = sign_text negative;
    signed = sign_is negative;
    digits = All-append IsAsciiDigit (decimal (n / 10 ^ k)) (padded k (n % 10 ^ k))
        (decimal_digits (n / 10 ^ k) whole_below) (padded_digits k (n % 10 ^ k) fraction_small);
    some =
        let first = decimal_nonempty (n / 10 ^ k) whole_below in
        let size = length-append (decimal (n / 10 ^ k)) (padded k (n % 10 ^ k)) in
        omega arith;
    spelled = inl (rw (tests_some k some) refl);
  }

  fraction_value : digits_value 10 (decimal (n / 10 ^ k) ++ padded k (n % 10 ^ k)) ≡ n
  fraction_value =
      let u = 10 ^ k in
      let whole : digits_value 10 (decimal (n / u)) ≡ n / u = (decimal_is_IsNumeral (n / u) whole_below).1 in
      let joined = digits_after 10 0 (decimal (n / u)) (padded k (n % u))
      ∙ after_sum (digits_value 10 (decimal (n / u))) (padded k (n % u)) in
      joined
      ∙ ap (λ m. m * 10 ^ length (padded k (n % u)) + digits_value 10 (padded k (n % u))) whole
      ∙ ap (λ m. n / u * 10 ^ m + digits_value 10 (padded k (n % u)))
      (padded_length k (n % u) some fraction_below fraction_small)
      ∙ ap (λ m. n / u * u + m) (padded_value k (n % u) fraction_small)
      ∙ div-add-mod' n u

  fraction_scaled : digits_value 10 (decimal (n / 10 ^ k) ++ padded k (n % 10 ^ k)) * 10 ^ k / 10 ^ length
      (padded k (n % 10 ^ k)) ≡ n
  fraction_scaled =
      let least = pow_some k in
      rw (fraction_value, padded_length k (n % 10 ^ k) some fraction_below fraction_small)
      (quotient n (n * 10 ^ k) (10 ^ k) least (omega arith) (omega arith))

-- no fraction
module _ (n : ℕ) (h : n < 2 ^ 64) (negative : Bool) where
  spells_whole : Spells (sign_text negative ++ unsigned_text 0 n) negative (decimal (n / 10 ^ 0)) []
  spells_whole =
      let same : n / 10 ^ 0 ≡ n = div-one n in
      record {
        sign = sign_text negative;
        signed = sign_is negative;
        digits = rw (append-nil (decimal (n / 10 ^ 0)), same) (decimal_digits n h);
        some = rw (append-nil (decimal (n / 10 ^ 0)), same) (decimal_nonempty n h);
        spelled = inr (ap (λ (ys : List ℕ). sign_text negative ++ ys) (append-nil (decimal (n / 10 ^ 0))), refl);
      }

  whole_scaled : digits_value 10 (decimal (n / 10 ^ 0) ++ []) * 10 ^ 0 / 10 ^ length {A = ℕ} [] ≡ n
  whole_scaled =
      let same : n / 10 ^ 0 ≡ n = div-one n in
      rw (append-nil (decimal (n / 10 ^ 0)), same, (decimal_is_IsNumeral n h).1, div-one (n * 1)) (omega arith)

-- ---- the value again

none_below : (n : ℕ) → ltb n 0 ≡ false
none_below n = grind (arith, nat_tests)

signed_again : (z : ℤ) → cond (int_lt z (pos 0)) (neg_ℤ (pos (unsigned_abs z))) (pos (unsigned_abs z)) ≡ z
signed_again (pos n) = rw (none_below n) refl
signed_again (negsuc n) = refl

with_sign : (negative : Bool) (m n : ℕ) → m ≡ n →
    cond negative (neg_ℤ (pos m)) (pos m) ≡ cond negative (neg_ℤ (pos n)) (pos n)
with_sign negative m n e = ap (λ x. cond negative (neg_ℤ (pos x)) (pos x)) e

pub read_again : NumbersAreSpelled → (k : ℕ) (z : ℤ) → unsigned_abs z < 2 ^ 64 →
    number_value k (fixed_text k z) ≡ Some z
read_again law zero z h =
    let n = unsigned_abs z in
    let negative = int_lt z (pos 0) in
    (law 0 (fixed_text 0 z) z).1 (
      negative,
      decimal (n / 10 ^ 0),
      [],
      spells_whole n h negative,
      sym (with_sign negative _ n (whole_scaled n h negative) ∙ signed_again z),
    )
read_again law (suc j) z h =
    let k = suc j in
    let n = unsigned_abs z in
    let negative = int_lt z (pos 0) in
    (law k (fixed_text k z) z).1 (
      negative,
      decimal (n / 10 ^ k),
      padded k (n % 10 ^ k),
      spells_fraction k n (omega arith) h negative,
      sym (with_sign negative _ n (fraction_scaled k n (omega arith) h negative) ∙ signed_again z),
    )

-- ---- room

pub units_small : (k : ℕ) → k ≤ 9 → 10 ^ k ≤ 10 ^ 9
units_small k h =
    let both : (9 - k) + k ≡ 9 = omega arith in
    let split : 10 ^ (9 - k) * 10 ^ k ≡ 10 ^ 9 = sym (pow-add 10 (9 - k) k) ∙ ap (λ m. 10 ^ m) both in
    let least = mul-le-mul_right (10 ^ k) (pow_some (9 - k)) in
    omega arith

pub short_decimal : (k n : ℕ) → k ≤ 9 → n < 10 ^ k → length (decimal n) ≤ 10
short_decimal k n few fits = let small = units_small k few in
    length-decimal-le 10 n (omega arith) (omega arith) (omega arith)
