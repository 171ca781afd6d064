-- Numbers with zeros in front: their digits, widths and values.
use Rattle.std.proofs.Common.{◌≡◌, ℕ, zero, suc, ◌-◌, ◌*◌, ◌/◌, ◌^◌, ◌<◌, true, false, List, [], ◌∷◌, ◌++◌, length, replicate, refl, sym, ap, ◌∙◌, arith, Some, inl, inr}
use Rattle.std.specs.Prelude.{All, pos}
use Rattle.std.specs.Char.{IsAsciiDigit, is_ascii_digit}
use Rattle.std.specs.Fmt.{decimal}
use Rattle.std.specs.Str.{all_ascii_digits}
use Rattle.std.specs.Str.Parse.{digits_value}
use Rattle.std.proofs.lemmas.Bool.{and_parts}
use Rattle.std.proofs.lemmas.Bool.Decides.{nat_tests}
use Rattle.std.proofs.lemmas.Fmt.{digits_decimal, decimal_is_IsNumeral, decimal_nonempty, length-decimal-le}
use Rattle.std.proofs.lemmas.List.{append-nil, length-append, length-replicate}
use Rattle.std.proofs.lemmas.List.Elements.{All-cons, All-append, All-weaker}
use Rattle.std.proofs.Math.Nat.{div-one}
use Rattle.std.proofs.lemmas.Str.Parse.{tells_all_ascii_digits, numerals_by_value, IsNumeralModel}
use Rattle.dada_model.specs.Number.{number_value}
use Rattle.dada_model.specs.Laws.{Spells, NumbersAreSpelled}
use Rattle.dada_model.specs.Change.{IsWordByte, IsWord}
use Rattle.psr_base.specs.Fixed.{padded}

own : IsNumeralModel (λ ds. all_ascii_digits ds ≡ true) (digits_value 10)
own = numerals_by_value (λ ds. all_ascii_digits ds ≡ true) tells_all_ascii_digits

digit_from : (byte : ℕ) → is_ascii_digit byte ≡ true → IsAsciiDigit byte
digit_from byte e = (grind (arith, nat_tests), grind (arith, nat_tests))

digits_from : (text : List ℕ) → all_ascii_digits text ≡ true → All IsAsciiDigit text
digits_from [] e = λ k d h. absurd (omega arith)
digits_from (x ∷ xs) e =
    let parts = and_parts (is_ascii_digit x) (all_ascii_digits xs) e in
    All-cons IsAsciiDigit x xs (digit_from x parts.0) (digits_from xs parts.1)

zeros_digits : (m : ℕ) → All IsAsciiDigit (replicate m 48)
zeros_digits zero = λ k d h. absurd (omega arith)
zeros_digits (suc m) = All-cons IsAsciiDigit 48 (replicate m 48) (omega arith, omega arith) (zeros_digits m)

pub padded_digits : (k n : ℕ) → n < 2 ^ 64 → All IsAsciiDigit (padded k n)
padded_digits k n h =
    All-append IsAsciiDigit (replicate (k - length (decimal n)) 48) (decimal n) (zeros_digits (k - length (decimal n)))
    (digits_from (decimal n) (digits_decimal own n h))

digit_in_word : (byte : ℕ) → IsAsciiDigit byte → IsWordByte byte
digit_in_word byte h = (omega arith, omega arith, λ e. absurd (omega arith))

pub padded_word : (k n : ℕ) → n < 2 ^ 64 → IsWord (padded k n)
padded_word k n h = record {
  some = omega (
    arith,
    length-append (replicate (k - length (decimal n)) 48) (decimal n),
    decimal_nonempty n h,
  );
  bytes = All-weaker IsAsciiDigit IsWordByte digit_in_word (padded k n) (padded_digits k n h);
}

pub padded_width : (k n : ℕ) → 0 < k → n < 10 ^ k → n < 2 ^ 64 → length (padded k n) ≡ k
padded_width k n some fits h =
    let short = length-decimal-le k n some fits h in
    let zeros = length-replicate {A = ℕ} (k - length (decimal n)) 48 in
    let size = length-append (replicate (k - length (decimal n)) 48) (decimal n) in
    omega (arith, short, zeros, size)

zeros_value : (m : ℕ) (digits : List ℕ) → digits_value 10 (replicate m 48 ++ digits) ≡ digits_value 10 digits
zeros_value zero digits = refl
zeros_value (suc m) digits = zeros_value m digits

pub padded_value : (k n : ℕ) → n < 2 ^ 64 → digits_value 10 (padded k n) ≡ n
padded_value k n h = zeros_value (k - length (decimal n)) (decimal n) ∙ (decimal_is_IsNumeral n h).1

-- a number text of digits alone has their value
pub padded_number : NumbersAreSpelled → (k n : ℕ) → n < 2 ^ 64 → number_value 0 (padded k n) ≡ Some (pos n)
padded_number law k n h =
    let text = padded k n in
    let whole : text ++ [] ≡ text = append-nil text in
    let spells : Spells text false text [] = record {
      sign = [];
      signed = inl refl;
      digits = rw whole (padded_digits k n h);
      some = rw whole (padded_word k n h).some;
      spelled = inr (refl, refl);
    } in
    let value : digits_value 10 (text ++ []) * 10 ^ 0 / 10 ^ length {A = ℕ} [] ≡ n =
    rw (whole, padded_value k n h, div-one (n * 1)) (omega arith) in
    (law 0 text (pos n)).1 (false, text, [], spells, ap pos (sym value))
