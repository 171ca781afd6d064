-- Rows of the whole band that may be left out.
-- Source: this project's choice.
use Rattle.std.specs.Prelude.{◌≡◌, ℕ, ◌≤◌, ◌<◌, List, Some, slice_get, slice_index}
use Rattle.row_model.specs.declared.Merge.{Merge}
use Rattle.row_model.specs.declared.Source.{Source}
use Rattle.row_model.specs.declared.Source.TheVariants.{Sum}

-- nothing is kept of the rows 0..count
abbrev pub KeepNothing : List ℕ → ℕ → Type 0
KeepNothing tails count = (r : ℕ) → r < count → slice_index tails r ≡ 0

-- neither row that is added is one of the rows 0..count
pub record AreLater (count : ℕ) (m : Merge) : Type 0 where
  pub upper : count ≤ m.upper
  pub lower : count ≤ m.lower

-- a row is made of none of the rows 0..count
abbrev pub IsMadeOfLater : Source → ℕ → Type 0
IsMadeOfLater source count = (m : Merge) → source ≡ Sum m → AreLater count m

-- so it is with the rows before row `end`
abbrev pub AreMadeOfLater : List Source → ℕ → ℕ → Type 0
AreMadeOfLater sources end count = (r : ℕ) (m : Merge) → r < end →
    slice_get sources r ≡ Some (Sum m) → AreLater count m
