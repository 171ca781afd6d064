-- The text of a header and its fields (PSRDADA manual: a header is lines of keyword and value; the
-- grammar and the limits of size are this project's profile). A byte is a number.
use Rattle.std.specs.Prelude.{ℕ, Bool, ◌&&◌, ◌||◌, nat_lt, nat_le, ◌==◌, if◌then◌else◌, List, [], ◌∷◌, length, take, replicate, ◌++◌, ◌-◌, filter, filter_map, find, Option, Some, None, option_map, Result, Ok, Err, ℤ, pos, negsuc, bytes_eq, codes}
use Rattle.std.specs.List.{before_first, slice_split, list_any, position_or_len}
use Rattle.dada_model.specs.Number.{number_value}

-- ---- lines and fields

-- space, tab, carriage return, vertical tab and form feed
unfoldable pub is_white : ℕ → Bool
is_white byte = (((byte == 32) || (byte == 9)) || (byte == 13)) || ((byte == 11) || (byte == 12))

-- a line ends at a line feed or at the end of the text; a last piece that is empty has no field
abbrev pub lines_of : List ℕ → List (List ℕ)
lines_of text = slice_split (λ byte. byte == 10) text

-- 35 is '#', which begins a comment
unfoldable pub without_comment : List ℕ → List ℕ
without_comment line = before_first (λ byte. byte == 35) line

-- the pieces between white space that aren't empty
unfoldable pub words_of : List ℕ → List (List ℕ)
words_of line = filter (λ word. nat_lt 0 (length word)) (slice_split is_white line)

pub record Field : Type 0 where
  pub keyword : List ℕ
  pub value : List ℕ

-- the first word is the keyword and the second the value; further words are ignored, and a line without a
-- second word is no field
abbrev pub field_of_words : List (List ℕ) → Option Field
field_of_words [] = None
field_of_words (first ∷ []) = None
field_of_words (first ∷ second ∷ more) = Some (record { keyword = first; value = second })

abbrev pub field_of_line : List ℕ → Option Field
field_of_line line = field_of_words (words_of (without_comment line))

-- the fields of a text, in the order of its lines
unfoldable pub fields_of : List ℕ → List Field
fields_of text = filter_map field_of_line (lines_of text)

-- the value of a keyword: that of the first field with it
unfoldable pub value_of : List ℕ → List Field → Option (List ℕ)
value_of keyword fields =
    option_map (λ field. field.value) (find (λ field. bytes_eq field.keyword keyword) fields)

-- ---- headers: a size in bytes and a text

pub record HeaderText : Type 0 where
  pub size : ℕ
  pub text : List ℕ

-- the least size of a header, and its size where HDR_SIZE is missing
abbrev pub least_header : ℕ
least_header = 4096

-- the greatest size of a header
abbrev pub most_header : ℕ
most_header = 65536

-- why bytes are no header: fewer of them than a header has; a size that is no number, or below the least or above the
-- greatest; the place of a byte above 127
pub data HeaderRefusal : Type 0 where
  ShortHeader : ℕ → HeaderRefusal
  BadHeaderSize : HeaderRefusal
  NotTextAt : ℕ → HeaderRefusal

-- the bytes before the first NUL, or all where there is none
abbrev pub before_nul : List ℕ → List ℕ
before_nul bytes = before_first (λ byte. byte == 0) bytes

abbrev pub allowed_size : Option ℤ → Option ℕ
allowed_size None = None
allowed_size (Some (pos size)) =
    if nat_le least_header size && nat_le size most_header then Some size else None
allowed_size (Some (negsuc _)) = None

abbrev pub size_of_value : Option (List ℕ) → Option ℕ
size_of_value None = Some least_header
size_of_value (Some text) = allowed_size (number_value 0 text)

-- HDR_SIZE, looked up in the first bytes alone, as many as the least header has; `None` where it is refused
unfoldable pub header_size : List ℕ → Option ℕ
header_size bytes =
    size_of_value (value_of (codes "HDR_SIZE") (fields_of (before_nul (take least_header bytes))))

-- the text of a header of a size
abbrev pub header_text : ℕ → List ℕ → List ℕ
header_text size bytes = before_nul (take size bytes)

abbrev pub is_above_ascii : ℕ → Bool
is_above_ascii byte = nat_lt 127 byte

abbrev pub header_with_text : ℕ → List ℕ → Result HeaderText HeaderRefusal
header_with_text size text =
    if list_any is_above_ascii text
    then Err (NotTextAt (position_or_len is_above_ascii text))
    else Ok (record { size = size; text = text })

abbrev pub header_of_size : List ℕ → Option ℕ → Result HeaderText HeaderRefusal
header_of_size bytes None = Err BadHeaderSize
header_of_size bytes (Some size) =
    if nat_lt (length bytes) size
    then Err (ShortHeader (length bytes))
    else header_with_text size (header_text size bytes)

-- the header that bytes begin with, or its first refusal; bytes past its size are ignored
unfoldable pub header_of : List ℕ → Result HeaderText HeaderRefusal
header_of bytes =
    if nat_lt (length bytes) least_header
    then Err (ShortHeader (length bytes))
    else header_of_size bytes (header_size bytes)

-- ---- the bytes of a header: its text, padded with NUL to its size

unfoldable pub header_bytes : HeaderText → List ℕ
header_bytes header = header.text ++ replicate (header.size - length header.text) 0
