-- Laws of the fields of a text, word by word and line by line; the functions of this crate carry them.
-- Source: PSRDADA manual (a header is lines of keyword and value); the grammar is this project's choice.
use Rattle.std.specs.Prelude.{◌≡◌, ℕ, ◌<◌, ◌≤◌, false, if◌then◌else◌, List, [], ◌∷◌, ◌++◌, All, length, drop, slice_range, ◌==◌, Option, Some, None}
use Rattle.dada_model.specs.Fields.{words_of, Field, field_of_line, fields_of, value_of}
use Rattle.dada_model.specs.Change.{word_start, word_end, has_key, with_value, blanked_line, overwritten, blanked}

-- ---- words

-- the words of a line from a place on: none where there is white space alone, or else the first and those after it
pub record AreWordsFrom (place : ℕ) (line : List ℕ) : Type 0 where
  pub within : word_start place line ≤ length line
  pub none : word_start place line ≡ length line → words_of (drop place line) ≡ []
  pub some : word_start place line < length line →
      word_start place line < word_end (word_start place line) line
  pub end : word_end (word_start place line) line ≤ length line
  pub words : word_start place line < length line → words_of (drop place line)
      ≡ slice_range line (word_start place line) (word_end (word_start place line) line)
      ∷ words_of (drop (word_end (word_start place line) line) line)

abbrev pub FirstWordOfLine : Type 0
FirstWordOfLine = (place : ℕ) (line : List ℕ) → place ≤ length line → AreWordsFrom place line

-- ---- lines

-- the value of a line, if it is a field with the key
abbrev pub value_if : Option Field → Option (List ℕ)
value_if None = None
value_if (Some field) = Some field.value

-- the line has no line feed
abbrev pub IsLine : List ℕ → Type 0
IsLine line = All (λ byte. (byte == 10) ≡ false) line

-- what holds of a text that is one line, and of one that begins with a line
pub record GoesByLine (key line : List ℕ) : Type 0 where
  pub value_alone : value_of key (fields_of line)
      ≡ (if has_key key line then value_if (field_of_line line) else None)
  pub value : (more : List ℕ) →
      value_of key (fields_of (line ++ (10 ∷ more)))
      ≡ (if has_key key line then value_if (field_of_line line)
      else value_of key (fields_of more))
  pub overwritten_alone : (value : List ℕ) →
      overwritten key value line ≡ (if has_key key line then with_value value line else line)
  pub overwritten : (value more : List ℕ) → overwritten key value (line ++ (10 ∷ more))
      ≡ (if has_key key line then with_value value line ++ (10 ∷ more)
      else line ++ (10 ∷ overwritten key value more))
  pub blanked_alone : blanked key line ≡ (if has_key key line then blanked_line line else line)
  pub blanked : (more : List ℕ) → blanked key (line ++ (10 ∷ more))
      ≡ (if has_key key line then blanked_line line else line) ++ (10 ∷ blanked key more)

abbrev pub FieldsByLines : Type 0
FieldsByLines = (key line : List ℕ) → IsLine line → GoesByLine key line
