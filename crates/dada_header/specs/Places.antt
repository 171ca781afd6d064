-- Where words, fields and values stand.
-- Source: PSRDADA manual (a header is lines of keyword and value); the grammar is this project's choice.
use Rattle.std.specs.Prelude.{◌≡◌, ℕ, ◌<◌, ◌≤◌, true, List, ◌∷◌, length, drop, Some, slice_range}
use Rattle.dada_model.specs.Fields.{without_comment, words_of, field_of_line, fields_of, value_of}
use Rattle.dada_model.specs.Change.{word_start, word_end, value_start, value_end, has_key, with_value_between, with_value, overwritten}
use Rattle.dada_header.specs.declared.words.Place.{Place}
use Rattle.dada_header.specs.declared.words.FieldPlaces.{FieldPlaces}

-- the bytes at a place
abbrev pub at : Place → List ℕ → List ℕ
at place bytes = slice_range bytes place.start place.end

-- the first word that begins at `from` or later
pub record IsNextWord (line : List ℕ) (from : ℕ) (place : Place) : Type 0 where
  pub start : place.start ≡ word_start from line
  pub end : place.end ≡ word_end place.start line
  pub some : place.start < place.end
  pub within : place.end ≤ length line
  pub words : words_of (drop from line) ≡ at place line ∷ words_of (drop place.end line)

-- the two words of a field
pub record IsFieldAt (line : List ℕ) (places : FieldPlaces) : Type 0 where
  pub field : field_of_line line
      ≡ Some (record { keyword = at places.keyword line; value = at places.value line })
  pub start : places.value.start ≡ value_start (without_comment line)
  pub end : places.value.end ≡ value_end (without_comment line)
  pub keyword_some : places.keyword.start < places.keyword.end
  pub apart : places.keyword.end ≤ places.value.start
  pub some : places.value.start < places.value.end
  pub within : places.value.end ≤ length line

-- the value of a line that is a field with the key
pub record IsValueAt (key line : List ℕ) (place : Place) : Type 0 where
  pub has_key : has_key key line ≡ true
  pub value : (keyword : List ℕ)
      × (field_of_line line ≡ Some (record { keyword = keyword; value = at place line }))
  pub other : (value : List ℕ) →
      with_value value line ≡ with_value_between place.start place.end value line
  pub some : place.start < place.end
  pub within : place.end ≤ length line

-- the value of the first field of a text with the key
pub record IsFirstValueAt (key text : List ℕ) (place : Place) : Type 0 where
  pub value : value_of key (fields_of text) ≡ Some (at place text)
  pub other : (value : List ℕ) →
      overwritten key value text ≡ with_value_between place.start place.end value text
  pub some : place.start < place.end
  pub within : place.end ≤ length text
