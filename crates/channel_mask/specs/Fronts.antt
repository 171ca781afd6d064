-- Where a text stops being the front of a mask text, and how far it was read.
-- Source: this project's choice.
use Rattle.std.specs.Prelude.{◌≡◌, ℕ, ◌+◌, ◌<◌, ◌≤◌, ◌==◌, Bool, true, false, ◌&&◌, not, nat_le, nat_lt, List, [], ◌∷◌, ◌++◌, length, take, slice_index, suc, Option, Some, None, option_and_then, codes, if◌then◌else◌}
use Rattle.std.specs.Char.{is_ascii_digit}
use Rattle.std.specs.Option.{option_map_or}
use Rattle.channel_mask.specs.declared.front.Front.{Front}
use Rattle.channel_mask.specs.declared.front.Front.TheVariants.{Start, Letters, Digits}
use Rattle.channel_mask.specs.Texts.{is_comma, is_hyphen, is_mask_text}

-- ---- fronts

-- some bytes more make the text a mask text
abbrev pub BeginsMask : List ℕ → Type 0
BeginsMask text = (rest : List ℕ) × (is_mask_text (text ++ rest) ≡ true)

-- the text stops being the front of a mask text at a place: its longest front of one is so long
pub record StopsAt (text : List ℕ) (place : ℕ) : Type 0 where
  pub within : place ≤ length text
  pub begins : BeginsMask (take place text)
  pub longest : (n : ℕ) → place < n → n ≤ length text → ¬ BeginsMask (take n text)

-- ---- the same byte by byte

-- one byte after `count` letters of `none`
abbrev pub after_letters : ℕ → ℕ → Option Front
after_letters count byte =
    if nat_lt count 4 && byte == slice_index (codes "none") count
    then Some (Letters (count + 1)) else None

-- one digit after `count` digits of a number, the second of its item or not
abbrev pub one_digit_more : ℕ → Bool → Option Front
one_digit_more count is_second =
    if nat_lt count 9 then Some (Digits (count + 1) is_second) else None

-- a byte after a whole number
abbrev pub after_number : Bool → ℕ → Option Front
after_number is_second byte =
    if is_comma byte then Some (Digits 0 false)
    else (if is_hyphen byte && not is_second then Some (Digits 0 true) else None)

-- one byte after `count` digits of a number
abbrev pub after_digits : ℕ → Bool → ℕ → Option Front
after_digits count is_second byte =
    if is_ascii_digit byte then one_digit_more count is_second
    else (if count == 0 then None else after_number is_second byte)

-- a front with one byte more, if that is a front
abbrev pub with_byte : Front → ℕ → Option Front
with_byte Start byte = if byte == 110 then Some (Letters 1) else after_digits 0 false byte
with_byte (Letters count) byte = after_letters count byte
with_byte (Digits count is_second) byte = after_digits count is_second byte

-- a front with more bytes, if that is a front
abbrev pub with_bytes : Front → List ℕ → Option Front
with_bytes front [] = Some front
with_bytes front (byte ∷ more) =
    option_and_then (λ next. with_bytes next more) (with_byte front byte)

-- how many bytes more it takes
abbrev pub bytes_taken : Front → List ℕ → ℕ
bytes_taken front [] = 0
bytes_taken front (byte ∷ more) =
    option_map_or (λ next. suc (bytes_taken next more)) (with_byte front byte) 0

-- whether it is a whole mask text
abbrev pub is_whole : Front → Bool
is_whole Start = false
is_whole (Letters count) = nat_le 4 count
is_whole (Digits count is_second) = nat_lt 0 count

-- the place at which a text stops being the front of a mask text
abbrev pub stop_of : List ℕ → ℕ
stop_of text = bytes_taken Start text
