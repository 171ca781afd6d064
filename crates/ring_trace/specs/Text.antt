-- The lines and the numbers of a text.
-- Source: this project's choice.
use Rattle.std.specs.Prelude.{◌≢◌, ℕ, ◌^◌, ◌<◌, ◌≤◌, List, [], ◌∷◌, length, slice_index, ◌==◌, if◌then◌else◌}
use Rattle.std.specs.Str.Parse.{IsNumeral, digits_value}

-- a byte that stands before the first of these lines
abbrev pub with_byte : ℕ → List (List ℕ) → List (List ℕ)
with_byte b [] = (b ∷ []) ∷ []
with_byte b (line ∷ lines) = (b ∷ line) ∷ lines

-- the lines of a text: each ends at a line feed, which the last may lack
abbrev pub trace_lines : List ℕ → List (List ℕ)
trace_lines [] = []
trace_lines (b ∷ text) = if b == 10 then [] ∷ trace_lines text else with_byte b (trace_lines text)

-- none of the bytes is this one
abbrev pub Lacks : ℕ → List ℕ → Type 0
Lacks byte bytes = (k : ℕ) → k < length bytes → slice_index bytes k ≢ byte

-- one to twenty decimal digits, whose value fits 64 bits
pub record IsNumber (text : List ℕ) : Type 0 where
  pub digits : IsNumeral 10 text
  pub few : length text ≤ 20
  pub fits : digits_value 10 text < 2 ^ 64
