-- Texts of numbers are words.
use Rattle.std.proofs.Common.{◌≡◌, ℕ, zero, suc, ◌-◌, ◌*◌, ◌/◌, ◌%◌, ◌^◌, ◌<◌, ◌≤◌, Bool, true, false, List, [], ◌∷◌, ◌++◌, length, replicate, arith}
use Rattle.std.specs.Prelude.{All, pos, int_lt, ◌==◌, if◌then◌else◌}
use Rattle.std.specs.Char.{is_ascii_digit}
use Rattle.std.specs.Fmt.{decimal, sign_text}
use Rattle.std.specs.Str.{all_ascii_digits}
use Rattle.std.specs.Str.Parse.{digits_value}
use Rattle.std.proofs.Math.Nat.{div-le_self, mod-le}
use Rattle.std.proofs.lemmas.Bool.{and_parts}
use Rattle.std.proofs.lemmas.Bool.Decides.{nat_tests}
use Rattle.std.proofs.lemmas.Fmt.{digits_decimal, decimal_nonempty}
use Rattle.std.proofs.lemmas.List.{length-append}
use Rattle.std.proofs.lemmas.List.Elements.{All-nil, All-cons, All-append}
use Rattle.std.proofs.lemmas.Str.Parse.{tells_all_ascii_digits, numerals_by_value, IsNumeralModel}
use Rattle.dada_model.specs.Change.{IsWordByte, IsWord}
use Rattle.psr_base.specs.Fixed.{padded, unsigned_text, fixed_text}

own : IsNumeralModel (λ ds. all_ascii_digits ds ≡ true) (digits_value 10)
own = numerals_by_value (λ ds. all_ascii_digits ds ≡ true) tells_all_ascii_digits

word_from : (byte : ℕ) → is_ascii_digit byte ≡ true → IsWordByte byte
word_from byte e =
    let low : 48 ≤ byte = grind (arith, nat_tests) in
    let high : byte ≤ 57 = grind (arith, nat_tests) in
    (omega arith, omega arith, λ same. absurd (omega arith))

words_from : (text : List ℕ) → all_ascii_digits text ≡ true → All IsWordByte text
words_from [] e = All-nil IsWordByte
words_from (x ∷ xs) e =
    let parts = and_parts (is_ascii_digit x) (all_ascii_digits xs) e in
    All-cons IsWordByte x xs (word_from x parts.0) (words_from xs parts.1)

decimal_words : (n : ℕ) → n < 2 ^ 64 → All IsWordByte (decimal n)
decimal_words n small = words_from (decimal n) (digits_decimal own n small)

zeros_words : (m : ℕ) → All IsWordByte (replicate m 48)
zeros_words zero = All-nil IsWordByte
zeros_words (suc m) =
    All-cons IsWordByte 48 (replicate m 48) (omega arith, omega arith, λ same. absurd (omega arith)) (zeros_words m)

abbrev fraction : Bool → ℕ → ℕ → List ℕ
fraction is_whole k n = if is_whole then [] else 46 ∷ padded k (n % 10 ^ k)

fraction_words : (is_whole : Bool) (k n : ℕ) → n % 10 ^ k < 2 ^ 64 → All IsWordByte (fraction is_whole k n)
fraction_words true k n small = All-nil IsWordByte
fraction_words false k n small =
    let rest = n % 10 ^ k in
    All-cons IsWordByte 46 (padded k rest) (omega arith, omega arith, λ same. absurd (omega arith))
    (All-append IsWordByte (replicate (k - length (decimal rest)) 48) (decimal rest)
    (zeros_words (k - length (decimal rest))) (decimal_words rest small))

unsigned_word : (k n : ℕ) → n / 10 ^ k < 2 ^ 64 → n % 10 ^ k < 2 ^ 64 → IsWord (unsigned_text k n)
unsigned_word k n whole part =
    let rest = fraction (k == 0) k n in
    let some = decimal_nonempty (n / 10 ^ k) whole in
    let size = length-append (decimal (n / 10 ^ k)) rest in
    record {
      some = omega (arith, size, some);
      bytes = All-append IsWordByte (decimal (n / 10 ^ k)) rest (decimal_words (n / 10 ^ k) whole)
          (fraction_words (k == 0) k n part);
    }

signed_word : (is_negative : Bool) (text : List ℕ) → IsWord text → IsWord (sign_text is_negative ++ text)
signed_word false text word = word
signed_word true text word = record {
  some = omega arith;
  bytes = All-cons IsWordByte 45 text (omega arith, omega arith, λ same. absurd (omega arith)) word.bytes;
}

-- a number
pub number_word : (k n : ℕ) → n / 10 ^ k < 2 ^ 64 → n % 10 ^ k < 2 ^ 64 → IsWord (fixed_text k (pos n))
number_word k n whole part =
    signed_word (int_lt (pos n) (pos 0)) (unsigned_text k n) (unsigned_word k n whole part)

pub small_quotient : (n m : ℕ) → n ≤ 2 * 10 ^ 18 → n / m < 2 ^ 64
small_quotient n m few = let least = div-le_self n m in omega arith

pub small_rest : (n m : ℕ) → n ≤ 2 * 10 ^ 18 → n % m < 2 ^ 64
small_rest n m few = let least = mod-le n m in omega arith
