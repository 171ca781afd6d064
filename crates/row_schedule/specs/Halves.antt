-- The two rows of 16 bits of which a row is made.
-- Source: this project's choice.
use Rattle.std.specs.Prelude.{◌≡◌, ℕ, ◌+◌, length, slice_index}
use Rattle.row_schedule.specs.declared.halves.Halves.{Halves}

-- both halves have `count` values
pub record HaveLength (count : ℕ) (halves : Halves) : Type 0 where
  pub upper : length halves.upper.now ≡ count
  pub lower : length halves.lower.now ≡ count

-- the sum of both at a place
abbrev pub half_sum : Halves → ℕ → ℕ
half_sum halves k = slice_index halves.upper.now k + slice_index halves.lower.now k
