-- A text of digits by a test.
use Rattle.std.proofs.Common.{◌≡◌, ℕ, Bool, true, false, ◌&&◌, List, [], ◌∷◌, length, refl, arith, ap}
use Rattle.std.specs.Prelude.{All, None, pos, nat_lt, nat_le, option_and_then}
use Rattle.std.specs.Char.{IsAsciiDigit, is_ascii_digit}
use Rattle.std.specs.Str.{all_ascii_digits}
use Rattle.std.specs.Str.Parse.{digits_value}
use Rattle.std.proofs.lemmas.List.Elements.{All-head, All-tail, All-cons}
use Rattle.std.proofs.lemmas.Bool.{and_parts, lt-ltb, le-leb, ltb-true, leb-true}
use Rattle.std.proofs.lemmas.Bool.Decides.{nat_tests}
use Rattle.dada_model.specs.Number.{IsWholeNumber}
use Rattle.option_rows.specs.declared.row.Limits.{Limits}
use Rattle.option_rows.specs.declared.row.Reader.TheVariants.{Whole}
use Rattle.option_rows.specs.Rows.{is_whole_text, number_read, if_allowed}

digit_passes : (byte : ℕ) → IsAsciiDigit byte → is_ascii_digit byte ≡ true
digit_passes byte h = grind (arith, nat_tests)

digit_from : (byte : ℕ) → is_ascii_digit byte ≡ true → IsAsciiDigit byte
digit_from byte e = (grind (arith, nat_tests), grind (arith, nat_tests))

all_digits : (text : List ℕ) → All IsAsciiDigit text → all_ascii_digits text ≡ true
all_digits [] h = refl
all_digits (x ∷ xs) h =
    rw (digit_passes x (All-head IsAsciiDigit x xs h)) (all_digits xs (All-tail IsAsciiDigit x xs h))

digits_from : (text : List ℕ) → all_ascii_digits text ≡ true → All IsAsciiDigit text
digits_from [] e = λ k d h. absurd (omega arith)
digits_from (x ∷ xs) e =
    let parts = and_parts (is_ascii_digit x) (all_ascii_digits xs) e in
    All-cons IsAsciiDigit x xs (digit_from x parts.0) (digits_from xs parts.1)

whole_passes : (text : List ℕ) → IsWholeNumber 19 text → is_whole_text text ≡ true
whole_passes text h = rw (lt-ltb 0 (length text) h.0, le-leb (length text) 19 h.1, all_digits text h.2) refl

whole_from : (text : List ℕ) → is_whole_text text ≡ true → IsWholeNumber 19 text
whole_from text e =
    let first = and_parts (nat_lt 0 (length text)) (nat_le (length text) 19 && all_ascii_digits text) e in
    let rest = and_parts (nat_le (length text) 19) (all_ascii_digits text) first.1 in
    (ltb-true 0 (length text) first.0, leb-true (length text) 19 rest.0, digits_from text rest.1)

by_test : {P : Type 0} (b : Bool) → (b ≡ true → P) → ¬ P → b ≡ false
by_test true holds never = absurd (never (holds refl))
by_test false holds never = refl

-- the value of a text of digits, and that there is none of another
pub whole_read : (limits : Limits) (text : List ℕ) (n : ℕ) → IsWholeNumber 19 text → n ≡ digits_value 10 text →
    if_allowed limits (pos n) ≡ option_and_then (if_allowed limits) (number_read Whole text)
whole_read limits text n h e = rw (whole_passes text h) (ap (λ m. if_allowed limits (pos m)) e)

pub none_read : (limits : Limits) (text : List ℕ) → ¬ IsWholeNumber 19 text →
    None ≡ option_and_then (if_allowed limits) (number_read Whole text)
none_read limits text never = rw (by_test (is_whole_text text) (whole_from text) never) refl
