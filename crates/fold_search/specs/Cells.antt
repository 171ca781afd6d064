-- How many cells path sums add up.
-- Source: this project's choice.
use Rattle.std.specs.Prelude.{ℕ, ◌+◌, ◌≤◌, ◌<◌, List, slice_index}
use Rattle.search_model.specs.Candidates.{plain_cells}

-- how many cells path sums add up: all of each path over a number of channels; or a count for each
-- delay from 0 on, and none past the last count
pub data CellCounts : Type 0 where
  Plain : ℕ → CellCounts
  Counted : List ℕ → CellCounts

-- how many a path sum of each delay adds up
abbrev pub cells_by : CellCounts → ℕ → ℕ
cells_by (Plain n) = plain_cells n
cells_by (Counted counts) = λ d. slice_index counts d

-- the path sums of the delays below `end` add up no more cells than a path over this number of
-- channels has
abbrev pub AreFewCells : CellCounts → ℕ → ℕ → Type 0
AreFewCells counts channels end = (d : ℕ) → d < end → cells_by counts d ≤ channels + d
