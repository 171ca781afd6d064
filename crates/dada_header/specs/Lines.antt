-- Where the lines of a text end.
-- Source: PSRDADA manual (a header is lines of keyword and value); where a line ends is this project's choice.
use Rattle.std.specs.Prelude.{◌≡◌, ℕ, ◌+◌, ◌<◌, ◌≤◌, List, ◌∷◌, ◌++◌, length, drop, slice_range}
use Rattle.dada_model.specs.FieldLaws.{IsLine}

-- the bytes from one place to another are a line, after which the text ends or has a line feed
pub record IsLineEnd (text : List ℕ) (from end : ℕ) : Type 0 where
  pub ordered : from ≤ end
  pub within : end ≤ length text
  pub line : IsLine (slice_range text from end)
  pub rest : end < length text →
      drop from text ≡ slice_range text from end ++ (10 ∷ drop (end + 1) text)
  pub last : end ≡ length text → drop from text ≡ slice_range text from end
