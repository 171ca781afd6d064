-- How much is kept of each row.
-- Source: this project's choice.
use Rattle.std.specs.Prelude.{◌≡◌, ℕ, ◌%◌, ◌≤◌, ◌<◌, ◌^◌, Some, length, slice_get, slice_index}
use Rattle.row_model.specs.declared.Merge.{Merge}
use Rattle.row_model.specs.declared.Source.TheVariants.{Channel, Sum}
use Rattle.row_model.specs.declared.Rows.{Rows}

-- how many rows there are
abbrev pub row_count : Rows → ℕ
row_count rows = length rows.sources.items

-- a row is made of rows that there are, of which the upper one keeps enough
pub record IsWithin (rows : Rows) (m : Merge) : Type 0 where
  pub upper : m.upper < row_count rows
  pub lower : m.lower < row_count rows
  pub enough : m.late ≤ slice_index rows.tails.items m.upper

-- Rows of a band of so many channels: of each enough is kept, a multiple of 16 values.
pub record AreRows (channels : ℕ) (rows : Rows) : Type 0 where
  pub few : row_count rows ≤ 2 ^ 27
  pub tails_entries : length rows.tails.items ≡ row_count rows
  pub channel : (r c : ℕ) → slice_get rows.sources.items r ≡ Some (Channel c) → c < channels
  pub merge : (r : ℕ) (m : Merge) → slice_get rows.sources.items r ≡ Some (Sum m) → IsWithin rows m
  pub whole : (r : ℕ) → slice_index rows.tails.items r % 16 ≡ 0
  pub short : (r : ℕ) → slice_index rows.tails.items r ≤ 2 ^ 14
