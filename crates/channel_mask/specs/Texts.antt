-- Mask texts: `none`, or items that are parted by commas. An item is a number, or two numbers that are joined by a
-- hyphen and name all channels between them. Channels are counted in the order of the file.
-- Source: this project's choice.
use Rattle.std.specs.Prelude.{ℕ, ◌==◌, Bool, ◌&&◌, nat_le, nat_lt, List, [], length, map, find, Option, codes, if◌then◌else◌}
use Rattle.std.specs.List.{flat_map, list_all, list_any, slice_split}
use Rattle.std.specs.Str.{all_ascii_digits, bytes_eq}
use Rattle.std.specs.Str.Parse.{digits_value}

-- 44 is ',' and 45 is '-'
abbrev pub is_comma : ℕ → Bool
is_comma byte = byte == 44

abbrev pub is_hyphen : ℕ → Bool
is_hyphen byte = byte == 45

-- ---- the form

-- the items of a text; `none` has none, and any other text has one or more
abbrev pub items_of : List ℕ → List (List ℕ)
items_of text = if bytes_eq text (codes "none") then [] else slice_split is_comma text

-- the texts of an item's numbers
abbrev pub parts_of : List ℕ → List (List ℕ)
parts_of item = slice_split is_hyphen item

-- 1 to 9 decimal digits
abbrev pub is_number : List ℕ → Bool
is_number text = nat_lt 0 (length text) && (nat_le (length text) 9 && all_ascii_digits text)

-- one number, or two
abbrev pub is_item : List ℕ → Bool
is_item item = nat_le (length (parts_of item)) 2 && list_all is_number (parts_of item)

abbrev pub is_mask_text : List ℕ → Bool
is_mask_text text = list_all is_item (items_of text)

-- ---- the meaning

-- the numbers of an item
abbrev pub numbers_of : List ℕ → List ℕ
numbers_of item = map (λ part. digits_value 10 part) (parts_of item)

-- all numbers of a text, in its order
abbrev pub numbers_in : List ℕ → List ℕ
numbers_in text = flat_map numbers_of (items_of text)

-- whether c lies between numbers, both included: one is not above it, and one is not below it
abbrev pub lies_among : List ℕ → ℕ → Bool
lies_among numbers c = list_any (λ n. nat_le n c) numbers && list_any (λ n. nat_le c n) numbers

-- whether a text names channel c of the file
abbrev pub names_channel : List ℕ → ℕ → Bool
names_channel text c = list_any (λ item. lies_among (numbers_of item) c) (items_of text)

-- the first number of a text that is not below the number of channels
abbrev pub first_outside : ℕ → List ℕ → Option ℕ
first_outside channels text = find (λ n. nat_le channels n) (numbers_in text)
