-- How a header field is changed (this project's profile): no byte that stands before the end of the text changes its
-- place, so the line of HDR_SIZE stays where it is.
-- Source: PSRDADA manual (a header is lines of keyword and value); how a field is changed is this project's choice.
use Rattle.std.specs.Prelude.{◌≢◌, ℕ, ◌+◌, ◌-◌, ◌<◌, ◌≤◌, Bool, false, nat_le, ◌==◌, if◌then◌else◌, List, [], ◌∷◌, ◌++◌, All, length, take, drop, replicate, slice_index_or, map, Option, Some, None, bytes_eq}
use Rattle.std.specs.List.{prefix_len, position_or_len, join_with_byte}
use Rattle.dada_model.specs.Fields.{is_white, lines_of, without_comment, Field, field_of_line, fields_of, value_of}

-- ---- words

-- a graphic ASCII byte that isn't '#'
abbrev pub IsWordByte : ℕ → Type 0
IsWordByte byte = (33 ≤ byte) × (byte ≤ 126) × (byte ≢ 35)

-- what a keyword and a value may be that are written into a header
pub record IsWord (word : List ℕ) : Type 0 where
  pub some : 0 < length word
  pub bytes : All IsWordByte word

-- 32 is a space
abbrev pub spaces : ℕ → List ℕ
spaces count = replicate count 32

-- the place after the white space that stands in a line from a place on, where a word begins; and the place
-- where a word ends
unfoldable pub word_start : ℕ → List ℕ → ℕ
word_start place line = place + prefix_len is_white (drop place line)

unfoldable pub word_end : ℕ → List ℕ → ℕ
word_end place line = place + position_or_len is_white (drop place line)

-- where the second word of a line begins, and where it ends
unfoldable pub value_start : List ℕ → ℕ
value_start line = word_start (word_end (word_start 0 line) line) line

unfoldable pub value_end : List ℕ → ℕ
value_end line = word_end (value_start line) line

-- ---- one line

abbrev pub has_keyword : List ℕ → Option Field → Bool
has_keyword key None = false
has_keyword key (Some field) = bytes_eq field.keyword key

-- whether a line is a field with a keyword
unfoldable pub has_key : List ℕ → List ℕ → Bool
has_key key line = has_keyword key (field_of_line line)

-- a field's line with another value in place of its own, and spaces where that was longer
abbrev pub with_value_between : ℕ → ℕ → List ℕ → List ℕ → List ℕ
with_value_between start end value line = take start line ++ (value ++ (spaces
    (end - start - length value) ++ drop end line))

unfoldable pub with_value : List ℕ → List ℕ → List ℕ
with_value value line = with_value_between (value_start (without_comment line)) (value_end
    (without_comment line)) value line

-- a line with spaces up to its comment
unfoldable pub blanked_line : List ℕ → List ℕ
blanked_line line =
    spaces (length (without_comment line)) ++ drop (length (without_comment line)) line

-- ---- the text

-- the first of the lines that is a field with the key has another value
abbrev pub with_first_value : List ℕ → List ℕ → List (List ℕ) → List (List ℕ)
with_first_value key value [] = []
with_first_value key value (line ∷ lines) =
    if has_key key line then with_value value line ∷ lines
    else line ∷ with_first_value key value lines

unfoldable pub overwritten : List ℕ → List ℕ → List ℕ → List ℕ
overwritten key value text = join_with_byte 10 (with_first_value key value (lines_of text))

-- each line that is a field with the key is blank up to its comment
abbrev pub without_key : List ℕ → List (List ℕ) → List (List ℕ)
without_key key lines = map (λ line. if has_key key line then blanked_line line else line) lines

unfoldable pub blanked : List ℕ → List ℕ → List ℕ
blanked key text = join_with_byte 10 (without_key key (lines_of text))

-- a line feed, unless the text is empty or ends in one
unfoldable pub line_end : List ℕ → List ℕ
line_end text = if slice_index_or text (length text - 1) 10 == 10 then [] else 10 ∷ []

-- the line of a new field
abbrev pub field_line : List ℕ → List ℕ → List ℕ
field_line key value = key ++ (32 ∷ (value ++ 10 ∷ []))

abbrev pub has_room_for : List ℕ → Option (List ℕ) → Bool
has_room_for value None = false
has_room_for value (Some old) = nat_le (length value) (length old)

-- whether the value of the key is at least as long as another, which then takes its place
unfoldable pub is_overwritten : List ℕ → List ℕ → List ℕ → Bool
is_overwritten key value text = has_room_for value (value_of key (fields_of text))

-- the text in which a key has a value: where it stands, or else in a line of its own at the end
unfoldable pub changed : List ℕ → List ℕ → List ℕ → List ℕ
changed key value text =
    if is_overwritten key value text
    then overwritten key value text
    else blanked key text ++ (line_end text ++ field_line key value)
