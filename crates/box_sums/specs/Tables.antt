-- What always holds of boxes and of their tables.
-- Source: this project's choice.
use Rattle.std.specs.Prelude.{ℕ, ◌+◌, ◌-◌, ◌*◌, ◌^◌, ◌≡◌, ◌<◌, ◌≤◌, ◌++◌, List, length, slice_index}
use Rattle.dada_model.specs.Bounds.{most_delay}
use Rattle.search_model.specs.Search.{longest_chunk}
use Rattle.fdmt_rows.specs.Rows.{sum_from}
use Rattle.box_sums.specs.Rows.{IsWidth}
use Rattle.box_sums.specs.Tails.{RowTails}

-- no value is above the bound
abbrev pub AreUpTo : ℕ → List ℕ → Type 0
AreUpTo bound xs = (k : ℕ) → slice_index xs k ≤ bound

-- zeros were put behind a list
pub record IsFilledUp (old new : List ℕ) : Type 0 where
  pub rest : List ℕ
  pub is : new ≡ old ++ rest
  pub zeros : AreUpTo 0 rest

-- row m of the boxes has the sums of 2^(m+1) neighbours of the first `total` values of a line, for each m below
-- `levels`
abbrev pub AreBoxes : List ℕ → ℕ → ℕ → List ℕ → ℕ → Type 0
AreBoxes boxes stride levels line total = (m i : ℕ) → m < levels → i + 2 ^ (m + 1) ≤ total
    → slice_index boxes (m * stride + i) ≡ sum_from line i (2 ^ (m + 1))

-- no sum of 2^m neighbours of the first `total` values of a line is above bound m, for m from 1 up to `levels`
abbrev pub AreBounds : List ℕ → ℕ → List ℕ → ℕ → Type 0
AreBounds bounds levels line total = (m i : ℕ) → 1 ≤ m → m ≤ levels → i + 2 ^ m ≤ total
    → sum_from line i (2 ^ m) ≤ slice_index bounds m

-- of the first `total` values of a line, the boxes of up to 2^made values are made, with a bound of each width
pub record AreMade
    (line : List ℕ) (total : ℕ) (boxes : List ℕ) (stride : ℕ) (greatest : List ℕ) (made : ℕ)
    : Type 0 where
  pub sums : AreBoxes boxes stride made line total
  pub bounds : AreBounds greatest made line total

-- what stands behind is as large as it has to be; of the row that was fed last, boxes are made up to a width that is no
-- wider than the widest, those of two values at least; there is memory for the lines of all rows that may be kept, and
-- room for what a line has above a base
pub record TablesAreSound (b : RowTails) (boxes greatest : List ℕ) (made memory excess_room : ℕ)
    : Type 0 where
  pub order : b.first ≤ b.last
  pub few_rows : b.last ≤ most_delay
  pub some : 1 ≤ b.chunk
  pub most : b.chunk ≤ longest_chunk
  pub width : IsWidth b.widest
  pub enough : b.widest ≤ b.reach + 1
  pub near : b.reach ≤ 32
  pub alone : b.widest ≤ 1 → b.reach ≡ 0
  pub lanes : 1 < b.widest → 16 ≤ b.reach
  pub fits : b.bound * b.widest < 2 ^ 32
  pub above : b.first ≤ b.newest
  pub below : b.newest ≤ b.last
  pub short : b.fed ≤ b.chunk
  pub tails_room : length b.tails ≡ (b.last - b.first + 1) * b.reach
  pub line_room : length b.line ≡ b.reach + b.chunk
  pub kept_room : (b.last - b.first + 1) * (b.reach + b.chunk) ≤ memory
  pub boxes_room : length boxes ≡ 5 * (b.reach + b.chunk)
  pub greatest_room : length greatest ≡ 6
  pub excess_fits : excess_room ≡ b.reach + b.chunk
  pub small_tails : AreUpTo b.bound b.tails
  pub small_line : AreUpTo b.bound b.line
  pub small_kept : AreUpTo b.bound b.kept
  pub some_made : 1 < b.widest → 1 ≤ made
  pub narrow_made : 2 ^ made ≤ b.widest
  pub are_made : AreMade b.line (b.reach + b.fed) boxes (b.reach + b.chunk) greatest made
