-- Numbers in a field's width.
use Rattle.std.proofs.Common.{◌≡◌, ℕ, ◌-◌, ◌^◌, ◌<◌, ◌≤◌, true, List, [], ◌∷◌, length, replicate, arith, length-append}
use Rattle.std.specs.Prelude.{All}
use Rattle.std.specs.Char.{is_ascii_digit}
use Rattle.std.specs.Fmt.{decimal}
use Rattle.std.specs.Str.{all_ascii_digits}
use Rattle.std.specs.Str.Parse.{digits_value}
use Rattle.std.proofs.lemmas.Bool.{and_parts}
use Rattle.std.proofs.lemmas.Bool.Decides.{nat_tests}
use Rattle.std.proofs.lemmas.Fmt.{digits_decimal, length-decimal-le}
use Rattle.std.proofs.lemmas.List.{length-replicate}
use Rattle.std.proofs.lemmas.List.Elements.{All-cons, All-append, All-replicate}
use Rattle.std.proofs.lemmas.Str.Parse.{tells_all_ascii_digits, numerals_by_value, IsNumeralModel}
use Rattle.dada_model.specs.Change.{IsWordByte, IsWord}
use Rattle.psr_base.specs.Fixed.{padded}

by_value : IsNumeralModel (λ ds. all_ascii_digits ds ≡ true) (digits_value 10)
by_value = numerals_by_value (λ ds. all_ascii_digits ds ≡ true) tells_all_ascii_digits

byte_of_word : (byte : ℕ) → is_ascii_digit byte ≡ true → IsWordByte byte
byte_of_word byte digit =
    let from : 48 ≤ byte = grind (arith, nat_tests) in
    let to : byte ≤ 57 = grind (arith, nat_tests) in
    (omega (arith, from), omega (arith, to), omega (arith, from))

bytes_of_word : (text : List ℕ) → all_ascii_digits text ≡ true → All IsWordByte text
bytes_of_word [] digits = λ k d h. absurd (omega arith)
bytes_of_word (x ∷ xs) digits =
    let parts = and_parts (is_ascii_digit x) (all_ascii_digits xs) digits in
    All-cons IsWordByte x xs (byte_of_word x parts.0) (bytes_of_word xs parts.1)

pub length-padded : (k n : ℕ) → 0 < k → n < 10 ^ k → n < 2 ^ 64 → length (padded k n) ≡ k
length-padded k n some fits small =
    let short = length-decimal-le k n some fits small in
    let zeros = length-replicate {A = ℕ} (k - length (decimal n)) 48 in
    let both = length-append (replicate (k - length (decimal n)) 48) (decimal n) in
    omega (arith, short, zeros, both)

pub padded_word : (k n : ℕ) → 0 < k → n < 10 ^ k → n < 2 ^ 64 → IsWord (padded k n)
padded_word k n some fits small =
    let long = length-padded k n some fits small in
    record {
      some = omega (arith, long, some);
      bytes = All-append IsWordByte (replicate (k - length (decimal n)) 48) (decimal n)
          (All-replicate IsWordByte (k - length (decimal n)) 48 (omega arith, omega arith, omega arith))
          (bytes_of_word (decimal n) (digits_decimal by_value n small));
    }
