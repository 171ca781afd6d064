-- The value of a text of decimal digits alone.
use Rattle.std.proofs.Common.{◌≡◌, ℕ, ◌+◌, ◌*◌, ◌/◌, ◌^◌, ◌<◌, ◌≤◌, true, false, ◌&&◌, cond, eqb, ltb, List, [], ◌∷◌, ◌++◌, length, get_or, drop, refl, ap, ◌∙◌, arith, Option, Some, None, Bool, append-nil, Result, Ok}
use Rattle.std.specs.Prelude.{All, ℤ, pos, neg_ℤ}
use Rattle.std.specs.Char.{IsAsciiDigit, is_ascii_digit}
use Rattle.std.specs.List.{before_first, after_first, position_or_len}
use Rattle.std.specs.Str.{all_ascii_digits}
use Rattle.std.specs.Str.Parse.{ParsesUnsigned, digits_value, starts_with_minus, without_leading_sign}
use Rattle.std.proofs.lemmas.Bool.Decides.{nat_tests}
use Rattle.std.proofs.lemmas.List.Elements.{All-head, All-tail, All-weaker}
use Rattle.std.proofs.lemmas.List.Sums.{position_or_len_is}
use Rattle.std.proofs.lemmas.Str.Parse.{IsNumeralModel, numerals_by_value, tells_all_ascii_digits, digits_value_short, parse_gives}
use Rattle.std.proofs.lemmas.List.{drop_all}
use Rattle.std.proofs.Math.Nat.{div-one}
use Rattle.std.proofs.Math.Seq.{take-length}
use Rattle.dada_model.specs.Number.{is_point, whole_part, fraction_part, digits_of_number, number_value, IsWholeNumber}

-- ---- the digits by a test

digit_passes : (byte : ℕ) → IsAsciiDigit byte → is_ascii_digit byte ≡ true
digit_passes byte h = grind (arith, nat_tests)

pub all_digits : (text : List ℕ) → All IsAsciiDigit text → all_ascii_digits text ≡ true
all_digits [] h = refl
all_digits (x ∷ xs) h =
    rw (digit_passes x (All-head IsAsciiDigit x xs h)) (all_digits xs (All-tail IsAsciiDigit x xs h))

pub no_point : (byte : ℕ) → IsAsciiDigit byte → is_point byte ≡ false
no_point byte h = grind (arith, nat_tests)

-- ---- digits have no point

point_past : (digits : List ℕ) → All IsAsciiDigit digits → position_or_len is_point digits ≡ length digits
point_past digits h =
    let none = All-weaker IsAsciiDigit (λ byte. is_point byte ≡ false) no_point digits h in
    position_or_len_is is_point digits (length digits) 0 (omega arith) (λ k small. none k 0 small) (λ small.
    absurd (omega arith))

pub whole_of : (digits : List ℕ) → All IsAsciiDigit digits → before_first is_point digits ≡ digits
whole_of digits h = rw (point_past digits h) (take-length digits)

pub fraction_of : (digits : List ℕ) → All IsAsciiDigit digits → after_first is_point digits ≡ []
fraction_of digits h = rw (point_past digits h) (drop_all (length digits + 1) digits (omega arith))

-- ---- the value

pub some_digits : (digits : List ℕ) → 0 < length digits → ltb 0 (length digits) ≡ true
some_digits digits h = grind (arith, nat_tests)

-- the value by its parts
unfoldable pub value_by : Bool → List ℕ → List ℕ → ℕ → Option ℤ
value_by negative digits fraction k =
    let magnitude = digits_value 10 digits * 10 ^ k / 10 ^ length fraction in
    cond (ltb 0 (length digits) && all_ascii_digits digits)
    (Some (cond negative (neg_ℤ (pos magnitude)) (pos magnitude))) None

pub value_by_is : (k : ℕ) (text : List ℕ) →
    number_value k text ≡ value_by (starts_with_minus text) (digits_of_number text) (fraction_part text) k
unfolding number_value value_by
value_by_is k text = refl

value_by-digits : (negative : Bool) (digits : List ℕ) (k : ℕ) → 0 < length digits → All IsAsciiDigit digits →
    value_by negative digits [] k
    ≡ Some (cond negative (neg_ℤ (pos (digits_value 10 digits * 10 ^ k))) (pos (digits_value 10 digits * 10 ^ k)))
unfolding value_by
value_by-digits negative digits k some all =
    rw (some_digits digits some, all_digits digits all, div-one (digits_value 10 digits * 10 ^ k)) refl

-- a sign or none, and then digits alone
signless : (text digits : List ℕ) (k : ℕ) → without_leading_sign text ≡ digits → 0 < length digits →
    All IsAsciiDigit digits →
    number_value k text ≡ Some
    (cond (starts_with_minus text) (neg_ℤ (pos (digits_value 10 digits * 10 ^ k)))
    (pos (digits_value 10 digits * 10 ^ k)))
signless text digits k bare some all =
    let whole : whole_part text ≡ digits = ap (before_first is_point) bare ∙ whole_of digits all in
    let fraction : fraction_part text ≡ [] = ap (after_first is_point) bare ∙ fraction_of digits all in
    let both : digits_of_number text ≡ digits = ap (λ (xs : List ℕ). xs ++ fraction_part text) whole
    ∙ ap (λ (xs : List ℕ). digits ++ xs) fraction ∙ append-nil digits in
    value_by_is k text
    ∙ ap (λ (xs : List ℕ). value_by (starts_with_minus text) xs (fraction_part text) k) both
    ∙ ap (λ (xs : List ℕ). value_by (starts_with_minus text) digits xs k) fraction
    ∙ value_by-digits (starts_with_minus text) digits k some all

pub no_minus : (byte : ℕ) → IsAsciiDigit byte → eqb byte 45 ≡ false
no_minus byte h = grind (arith, nat_tests)

pub no_plus : (byte : ℕ) → IsAsciiDigit byte → eqb byte 43 ≡ false
no_plus byte h = grind (arith, nat_tests)

pub number_value-whole : (most : ℕ) (text : List ℕ) (k : ℕ) → IsWholeNumber most text →
    number_value k text ≡ Some (pos (digits_value 10 text * 10 ^ k))
number_value-whole most text k h =
    let first = h.2 0 0 h.0 in
    let minus : starts_with_minus text ≡ false = no_minus (get_or text 0 0) first in
    let bare : without_leading_sign text ≡ text = rw (minus, no_plus (get_or text 0 0) first) refl in
    let value = signless text text k bare h.0 h.2 in
    rw minus at value

-- ---- what `parse` reads

own : IsNumeralModel (λ ds. all_ascii_digits ds ≡ true) (digits_value 10)
own = numerals_by_value (λ ds. all_ascii_digits ds ≡ true) tells_all_ascii_digits

pub digits_below : (most : ℕ) (text : List ℕ) → IsWholeNumber most text → digits_value 10 text < 10 ^ most
digits_below most text h = digits_value_short own text most (all_digits text h.2) h.1

pub parsed : {E : Type 0} (most : ℕ) (text : List ℕ) (r : Result ℕ E) → most ≤ 19 → IsWholeNumber most text →
    ParsesUnsigned 64 10 text r → r ≡ Ok (digits_value 10 text)
parsed most text r small h read =
    let digits = all_digits text h.2 in
    let below : digits_value 10 text < 10 ^ 19 = digits_value_short own text 19 digits (omega (arith, h.1)) in
    parse_gives own 64 text r read digits h.0 (omega arith)

-- ---- a minus

is_minus : (byte : ℕ) → eqb byte 45 ≡ true → byte ≡ 45
is_minus byte e = grind (arith, nat_tests)

pub minus_first : (text : List ℕ) → starts_with_minus text ≡ true → text ≡ 45 ∷ drop 1 text
minus_first [] e = (cc)
minus_first (x ∷ xs) e = ap (λ (byte : ℕ). byte ∷ xs) (is_minus x e)
