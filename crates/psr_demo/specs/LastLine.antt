-- The last line of a text.
-- Source: this project's choice.
use Rattle.std.specs.Prelude.{◌≡◌, ◌≢◌, ℕ, ◌+◌, ◌<◌, ◌⊎◌, List, [], ◌∷◌, ◌++◌, length, slice_index}

-- the text ends in a line feed, which is 10, or there is none
abbrev pub EndsLine : List ℕ → Type 0
EndsLine text = (text ≡ []) ⊎ ((front : List ℕ) × (text ≡ front ++ 10 ∷ []))

-- no line feed stands before the last byte, and there is one byte at least
pub record IsOneLine (line : List ℕ) : Type 0 where
  pub some : 0 < length line
  pub bare : (i : ℕ) → i + 1 < length line → slice_index line i ≢ 10

-- a text is whole lines, and then this line; a text without bytes has no line
pub record IsLastLine (text line : List ℕ) : Type 0 where
  pub before : List ℕ
  pub joined : text ≡ before ++ line
  pub ends : EndsLine before
  pub one : (text ≡ []) ⊎ IsOneLine line
