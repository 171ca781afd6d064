-- Boxes of what values have above a base, in 16 bits.
-- Source: this project's choice.
use Rattle.std.specs.Prelude.{ℕ, ◌+◌, ◌*◌, ◌^◌, ◌≡◌, ◌<◌, ◌≤◌, List, Option, Some, slice_get, slice_index}
use Rattle.std.specs.Simd.Lanes.{zip2}
use Rattle.fdmt_rows.specs.Rows.{sum_from}

-- the sums of the values of two rows
abbrev pub plain_sums : List ℕ → List ℕ → List ℕ
plain_sums upper lower = zip2 (λ x y. x + y) upper lower

-- Row `level` of `rows` has, for each sum of 2^level neighbours of the first `total` values of a
-- line, an upper bound of how far it lies above 2^level bases; 65535 bounds nothing. No value of
-- the row is greater than `greatest`.
pub record AreExcess (line rows : List ℕ) (stride base total level greatest : ℕ) : Type 0 where
  pub above : (i : ℕ) → i + 2 ^ level ≤ total → slice_index rows (level * stride + i) < 65535 →
      sum_from line i (2 ^ level) ≤ base * 2 ^ level + slice_index rows (level * stride + i)
  pub bound : (i : ℕ) → i + 2 ^ level ≤ total → slice_index rows (level * stride + i) ≤ greatest

-- no sum of 2^level neighbours of the first `total` values of a line reaches `least`
abbrev pub AreBelow : List ℕ → ℕ → ℕ → ℕ → Type 0
AreBelow line total level least = (i : ℕ) → i + 2 ^ level ≤ total →
    sum_from line i (2 ^ level) < least

-- for each level that has a threshold, no sum of 2^level neighbours reaches it
abbrev pub AreAllBelow : List ℕ → ℕ → List (Option ℕ) → ℕ → Type 0
AreAllBelow line total leasts levels = (level least : ℕ) → level < levels →
    slice_get leasts level ≡ Some (Some least) → AreBelow line total level least
