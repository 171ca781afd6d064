-- What a search for the greatest value keeps, sixteen lanes wide.
-- Source: this project's choice.
use Rattle.std.specs.Prelude.{ℕ, ◌%◌, ◌≡◌, ◌<◌, ◌≤◌, ◌⊎◌, List, length, slice_index}
use Rattle.std.specs.List.{Contains}

-- a greatest value so far, which begins at 0
abbrev pub IsZeroOrIn : List ℕ → ℕ → Type 0
IsZeroOrIn row x = (x ≡ 0) ⊎ Contains row x

-- lane by lane the greatest of the first `done` values, where value k goes to lane k modulo 16
pub record AreLaneGreatest (row lanes : List ℕ) (done : ℕ) : Type 0 where
  pub long : length lanes ≡ 16
  pub whole : done % 16 ≡ 0
  pub bound : (k : ℕ) → k < done → slice_index row k ≤ slice_index lanes (k % 16)
  pub found : (j : ℕ) → IsZeroOrIn row (slice_index lanes j)
