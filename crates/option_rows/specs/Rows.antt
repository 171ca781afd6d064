-- A row of a table of options, and the value of a word in it.
-- Source: this project's choice.
use Rattle.std.specs.Prelude.{ℕ, ◌^◌, ◌≤◌, ◌==◌, Bool, ◌&&◌, ◌||◌, nat_le, nat_lt, max, List, length, Option, Some, None, option_and_then, if◌then◌else◌, ℤ, pos, negsuc}
use Rattle.std.specs.List.{list_any}
use Rattle.std.specs.Option.{option_map_or}
use Rattle.std.specs.Str.{all_ascii_digits}
use Rattle.std.specs.Str.Parse.{digits_value}
use Rattle.dada_model.specs.Number.{number_value}
use Rattle.search_model.specs.Search.{box_widths}
use Rattle.option_rows.specs.declared.row.Reader.{Reader}
use Rattle.option_rows.specs.declared.row.Reader.TheVariants.{Whole, Decimals}
use Rattle.option_rows.specs.declared.row.Limits.{Limits}
use Rattle.option_rows.specs.declared.row.Limits.TheVariants.{Between, Either, BoxWidth}
use Rattle.option_rows.specs.declared.row.Row.{Row}

abbrev pub row_between : Reader → ℕ → ℕ → ℕ → Row
row_between reader least most default =
    record { reader = reader; limits = Between least most; default = default }

-- 1 to 19 decimal digits
abbrev pub is_whole_text : List ℕ → Bool
is_whole_text text = nat_lt 0 (length text) && (nat_le (length text) 19 && all_ascii_digits text)

-- the number that a text writes: digits alone, or a number with so many decimals in units of the last of them
abbrev pub number_read : Reader → List ℕ → Option ℤ
number_read Whole text = if is_whole_text text then Some (pos (digits_value 10 text)) else None
number_read (Decimals k) text = number_value k text

abbrev pub limits_allow : Limits → ℕ → Bool
limits_allow (Between least most) n = nat_le least n && nat_le n most
limits_allow (Either a b) n = (n == a) || (n == b)
limits_allow BoxWidth n = list_any (λ w. w == n) box_widths

-- the greatest number that they allow
abbrev pub greatest_of : Limits → ℕ
greatest_of (Between least most) = most
greatest_of (Either a b) = max a b
greatest_of BoxWidth = 32

-- a number that the limits allow
abbrev pub if_allowed : Limits → ℤ → Option ℕ
if_allowed limits (pos n) = if limits_allow limits n then Some n else None
if_allowed limits (negsuc n) = None

-- the value of a text in its row, where it has one
abbrev pub value_in_row : Row → List ℕ → Option ℕ
value_in_row row text = option_and_then (if_allowed row.limits) (number_read row.reader text)

abbrev pub LimitsFit : Limits → Reader → Type 0
LimitsFit limits Whole = Unit {0}
LimitsFit limits (Decimals k) = (k ≤ 9) × (greatest_of limits ≤ 10 ^ 18)

-- decimals that can be read, and limits below what is too large to be read
abbrev pub FitsReader : Row → Type 0
FitsReader row = LimitsFit row.limits row.reader

-- the value of the word that was given, where it is in the row, or the one that stands without a word
abbrev pub value_of_word : Row → Option (List ℕ) → Option ℕ
value_of_word row word = option_map_or (value_in_row row) word (Some row.default)
