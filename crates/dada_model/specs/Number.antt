-- Number texts (this project's profile): an optional sign, digits, and optionally a point and digits,
-- with at least one digit in all. There is no exponent.
-- Source: PSRDADA manual (the value of a keyword is text); which texts are numbers is this project's choice.
use Rattle.std.specs.Prelude.{ℕ, ◌<◌, ◌≤◌, ◌*◌, ◌/◌, ◌^◌, Bool, ◌&&◌, nat_lt, ◌==◌, if◌then◌else◌, List, ◌++◌, length, All, Option, Some, None, ℤ, pos, neg_ℤ}
use Rattle.std.specs.List.{before_first, after_first}
use Rattle.std.specs.Char.{IsAsciiDigit}
use Rattle.std.specs.Str.{all_ascii_digits}
use Rattle.std.specs.Str.Parse.{starts_with_minus, without_leading_sign, digits_value}

-- 46 is '.'
abbrev pub is_point : ℕ → Bool
is_point byte = byte == 46

-- what stands before the point and after the sign, and what stands after the point
abbrev pub whole_part : List ℕ → List ℕ
whole_part text = before_first is_point (without_leading_sign text)

abbrev pub fraction_part : List ℕ → List ℕ
fraction_part text = after_first is_point (without_leading_sign text)

-- the two parts without the point
abbrev pub digits_of_number : List ℕ → List ℕ
digits_of_number text = whole_part text ++ fraction_part text

abbrev pub is_number : List ℕ → Bool
is_number text =
    nat_lt 0 (length (digits_of_number text)) && all_ascii_digits (digits_of_number text)

-- the digits as one whole number, scaled by ten to the k, and further digits dropped
abbrev pub scaled_magnitude : ℕ → List ℕ → ℕ
scaled_magnitude k text =
    digits_value 10 (digits_of_number text) * 10 ^ k / 10 ^ length (fraction_part text)

-- the value with k decimals, dropped towards zero, and `None` where the text is no number
unfoldable pub number_value : ℕ → List ℕ → Option ℤ
number_value k text =
    if is_number text
    then Some (if starts_with_minus text
    then neg_ℤ (pos (scaled_magnitude k text))
    else pos (scaled_magnitude k text))
    else None

-- a text of decimal digits alone, one at least and so many at most
abbrev pub IsWholeNumber : ℕ → List ℕ → Type 0
IsWholeNumber most_digits text =
    (0 < length text) × (length text ≤ most_digits) × All IsAsciiDigit text
