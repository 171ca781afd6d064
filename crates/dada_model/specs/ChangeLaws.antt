-- Laws of headers and of their changes; the functions of this crate carry them.
-- Source: this project's choice.
use Rattle.std.specs.Prelude.{◌≡◌, ◌≢◌, ℕ, ◌+◌, ◌<◌, ◌≤◌, ◌⊎◌, true, List, [], ◌∷◌, ◌++◌, All, length, take, slice_index, Some, Ok, codes}
use Rattle.dada_model.specs.Fields.{without_comment, fields_of, value_of, least_header, most_header, HeaderText, header_of, header_bytes}
use Rattle.dada_model.specs.Change.{IsWord, has_key, blanked, changed}

-- ---- headers

-- a file that begins with the same bytes has the same header
abbrev pub HeadersByFront : Type 0
HeadersByFront = (bytes file : List ℕ) (header : HeaderText) → header_of bytes ≡ Ok header →
    take header.size file ≡ take header.size bytes → header_of file ≡ Ok header

-- a header is read back from its bytes
abbrev pub IsReadBack : HeaderText → Type 0
IsReadBack header = header_of (header_bytes header) ≡ Ok header

-- a header of the least size with an empty text is read back
abbrev pub BlankIsReadBack : Type 0
BlankIsReadBack = IsReadBack (record { size = least_header; text = [] })

-- the text of a header that is read back is ASCII without NUL, and no longer than its size, which is in its range
pub record IsHeader (header : HeaderText) : Type 0 where
  pub text : All (λ byte. (0 < byte) × (byte < 128)) header.text
  pub fits : length header.text ≤ header.size
  pub least : least_header ≤ header.size
  pub most : header.size ≤ most_header

abbrev pub HeadersAreText : Type 0
HeadersAreText = (header : HeaderText) → IsReadBack header → IsHeader header

abbrev pub HeadersAreReadBack : Type 0
HeadersAreReadBack =
    (bytes : List ℕ) (header : HeaderText) → header_of bytes ≡ Ok header → IsReadBack header

-- ---- changes

-- the key has the value
abbrev pub ChangeGivesValue : Type 0
ChangeGivesValue = (key value text : List ℕ) → IsWord key → IsWord value →
    value_of key (fields_of (changed key value text)) ≡ Some value

-- every other key has the value that it had, also where the text is cut
abbrev pub ChangeKeepsOthers : Type 0
ChangeKeepsOthers =
    (key value text other : List ℕ) (n : ℕ) → IsWord key → IsWord value → other ≢ key →
    value_of other (fields_of (take n (changed key value text)))
    ≡ value_of other (fields_of (take n text))

-- a byte of a text stands before the comment in a line that is a field with the key
pub record IsInField (key text : List ℕ) (i : ℕ) : Type 0 where
  pub before : List ℕ
  pub line : List ℕ
  pub after : List ℕ
  pub text_is : text ≡ before ++ (line ++ after)
  pub begins : (before ≡ []) ⊎ ((front : List ℕ) × (before ≡ front ++ 10 ∷ []))
  pub is_line : All (λ byte. byte ≢ 10) line
  pub ends : (after ≡ []) ⊎ ((rest : List ℕ) × (after ≡ 10 ∷ rest))
  pub field : has_key key line ≡ true
  pub from : length before ≤ i
  pub upto : i < length before + length (without_comment line)

-- each byte of the text stays where it was, but for bytes of fields with the key
pub record StaysInPlace (key old new : List ℕ) : Type 0 where
  pub no_shorter : length old ≤ length new
  pub bytes : (i : ℕ) → i < length old →
      (slice_index new i ≡ slice_index old i) ⊎ IsInField key old i

abbrev pub ChangeStaysInPlace : Type 0
ChangeStaysInPlace = (key value text : List ℕ) → IsWord key → IsWord value →
    StaysInPlace key text (changed key value text)

-- a text keeps its length where the fields of a key become blank
abbrev pub BlankKeepsLength : Type 0
BlankKeepsLength = (key text : List ℕ) → length (blanked key text) ≡ length text

-- of two changes of a key to values of one width, the last alone counts
abbrev pub LastChangeCounts : Type 0
LastChangeCounts = (key first last text : List ℕ) → IsWord key → IsWord first → IsWord last →
    length first ≡ length last →
    changed key last (changed key first text) ≡ changed key last text

-- a header that has room for the change of another key than HDR_SIZE is read back with the same size
abbrev pub ChangedIsReadBack : Type 0
ChangedIsReadBack =
    (key value : List ℕ) (header : HeaderText) → IsWord key → IsWord value →
    key ≢ codes "HDR_SIZE" →
    length (changed key value header.text) < header.size → IsReadBack header →
    IsReadBack (record { size = header.size; text = changed key value header.text })
