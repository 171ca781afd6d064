-- The numbers of a search in parts: counts of spectra and of pulses.
-- Source: this project's choice.
use Rattle.std.specs.Prelude.{◌≡◌, ℕ, ◌≤◌, List, length, Bool, ◌&&◌, nat_lt, nat_le, Option, Some, None, if◌then◌else◌}
use Rattle.std.specs.Str.{all_ascii_digits}
use Rattle.std.specs.Str.Parse.{digits_value}
use Rattle.dada_model.specs.Number.{IsWholeNumber}

-- the greatest of them, 2^48
abbrev pub greatest_count : ℕ
greatest_count = 281474976710656

-- how many digits they have at most, leading zeros among them
abbrev pub most_digits : ℕ
most_digits = 15

-- the text is such a number, in decimal digits alone
pub record IsCount (text : List ℕ) (n : ℕ) : Type 0 where
  pub digits : IsWholeNumber most_digits text
  pub value : n ≡ digits_value 10 text
  pub bound : n ≤ greatest_count

-- whether a text is a count
abbrev pub is_count : List ℕ → Bool
is_count text =
    nat_lt 0 (length text) && nat_le (length text) most_digits && all_ascii_digits text
    && nat_le (digits_value 10 text) greatest_count

-- the argument UNTIL, the spectrum before which a part stops: a count that is not 0
pub record IsUntil (word : List ℕ) (n : ℕ) : Type 0 where
  pub count : IsCount word n
  pub some : 1 ≤ n

-- the number of the argument UNTIL, if it has this form
unfoldable pub until_of : List ℕ → Option ℕ
until_of word =
    if is_count word && nat_le 1 (digits_value 10 word) then Some (digits_value 10 word) else None
