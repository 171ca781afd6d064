-- What the loops over whole rows give. A row is a list of values, and reads as 0 past its end.
-- Source: this project's choice.
use Rattle.std.specs.Prelude.{ℕ, ◌+◌, ◌%◌, ◌^◌, ◌≡◌, ◌<◌, ◌≤◌, List, length, sum, slice_index, drop, take}
use Rattle.std.specs.List.{Contains}
use Rattle.std.specs.Simd.Lanes.{zip2}

-- the sum of two values in 32 bits
abbrev pub wrapping_sum : ℕ → ℕ → ℕ
wrapping_sum x y = (x + y) % 2 ^ 32

-- the sums of two rows in 32 bits
abbrev pub sums_of : List ℕ → List ℕ → List ℕ
sums_of a b = zip2 wrapping_sum a b

-- each value is the sum of those of a and b in 32 bits
abbrev pub AddsWrapping : List ℕ → List ℕ → List ℕ → Type 0
AddsWrapping out a b =
    (k : ℕ) → slice_index out k ≡ wrapping_sum (slice_index a k) (slice_index b k)

-- each value is the plain sum of those of a and b, where that fits into 32 bits
abbrev pub AddsPlainly : List ℕ → List ℕ → List ℕ → Type 0
AddsPlainly out a b = (k : ℕ) → slice_index a k + slice_index b k < 2 ^ 32
    → slice_index out k ≡ slice_index a k + slice_index b k

-- the sum of two values in 16 bits
abbrev pub narrow_sum : ℕ → ℕ → ℕ
narrow_sum x y = (x + y) % 2 ^ 16

-- each value is the sum of those of a and b in 16 bits
abbrev pub AddsNarrowly : List ℕ → List ℕ → List ℕ → Type 0
AddsNarrowly out a b =
    (k : ℕ) → slice_index out k ≡ narrow_sum (slice_index a k) (slice_index b k)

-- each value is that of another row in 16 bits
abbrev pub Narrows : List ℕ → List ℕ → Type 0
Narrows out xs = (k : ℕ) → slice_index out k ≡ slice_index xs k % 2 ^ 16

-- the sum of `count` values of a row, from the k-th on
abbrev pub sum_from : List ℕ → ℕ → ℕ → ℕ
sum_from row k count = sum (take count (drop k row))

-- the greatest value of a row, 0 where it has none
pub record IsGreatest (row : List ℕ) (x : ℕ) : Type 0 where
  pub bound : (k : ℕ) → slice_index row k ≤ x
  pub empty : length row ≡ 0 → x ≡ 0
  pub attained : 0 < length row → Contains row x
