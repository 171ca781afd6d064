-- The sums that are kept of each cell while a stretch is gone through, spectrum by spectrum; and how large moments and
-- scales may be.
-- Source: this project's choice.
use Rattle.std.specs.Prelude.{ℕ, ◌≡◌, ◌*◌, ◌≤◌, ◌+◌, ◌-◌, ◌^◌, ◌<◌, ◌&&◌, Bool, not, List, length, map, filter, sum_by, slice_index, nat_le, cond}
use Rattle.band_level.specs.declared.scale.Moments.{Moments as MomentsHeld}
use Rattle.band_level.specs.declared.scale.Scale.{Scale as ScaleHeld}
use Rattle.band_level.specs.Moments.{Moments, is_near}
use Rattle.band_level.specs.Scales.{Scale, most_gain}
use Rattle.std.specs.List.{range_with_len}
use Rattle.band_level.specs.declared.cells.CellMoments.{CellMoments}
use Rattle.band_level.specs.declared.cells.CellBounds.{CellBounds}

-- the moments that the code holds
abbrev pub moments_of : MomentsHeld → Moments
moments_of m = record { count = m.count; total = m.total; squares = m.squares }

-- those of at most n values below 2^22
pub record MomentsWithin (n : ℕ) (m : Moments) : Type 0 where
  pub count : m.count ≤ n
  pub total : m.total ≤ m.count * 4194303
  pub squares : m.squares ≤ m.count * 17592177655809

abbrev pub MomentsInRange : Moments → Type 0
MomentsInRange m = MomentsWithin 1048576 m

-- the scale that the code holds is this one, and its numbers are small
pub record IsScaleOf (s : ScaleHeld) (t : Scale) : Type 0 where
  pub gain : s.gain ≡ t.gain
  pub base : s.base ≡ t.base
  pub lift : s.lift ≡ t.lift
  pub most_gain : s.gain ≤ most_gain
  pub most_base : s.base ≤ 68719476736
  pub most_lift : s.lift ≤ 4398046511104

-- the values of a cell in the first n spectra
abbrev pub column : (ℕ → ℕ → ℕ) → ℕ → ℕ → List ℕ
column value n i = map (λ t. value t i) (range_with_len 0 n)

abbrev pub is_between : ℕ → ℕ → ℕ → Bool
is_between low high x = nat_le low x && nat_le x high

abbrev pub is_far : ℕ → ℕ → ℕ → Bool
is_far low high x = not (is_between low high x)

-- the sums of all values of the first n spectra
pub record AreTotals (value : ℕ → ℕ → ℕ) (cells n : ℕ) (totals squares : List ℕ) : Type 0 where
  pub total : (i : ℕ) → i < cells → slice_index totals i ≡ sum_by (λ x. x) (column value n i)
  pub square : (i : ℕ) → i < cells
      → slice_index squares i ≡ sum_by (λ x. x * x) (column value n i)

-- what is added for a value beyond the bounds, and for 1 with it
abbrev pub far_part : ℕ → ℕ → ℕ → ℕ → ℕ
far_part low high x y = cond (is_far low high x) y 0

-- of a row of values those beyond the bounds of their cells are added to the sums
pub record AddsFar (lows highs row counts totals squares counts' totals' squares' : List ℕ)
    : Type 0 where
  pub count : (i : ℕ) → i < length row → slice_index counts' i ≡ slice_index counts i
      + far_part (slice_index lows i) (slice_index highs i) (slice_index row i) 1
  pub total : (i : ℕ) → i < length row → slice_index totals' i ≡ slice_index totals i
      + far_part (slice_index lows i) (slice_index highs i) (slice_index row i)
      (slice_index row i)
  pub square : (i : ℕ) → i < length row → slice_index squares' i ≡ slice_index squares i
      + far_part (slice_index lows i) (slice_index highs i) (slice_index row i)
      (slice_index row i * slice_index row i)

-- the values of a cell between its bounds, and beyond
abbrev pub near_column : (ℕ → ℕ → ℕ) → List ℕ → List ℕ → ℕ → ℕ → List ℕ
near_column value lows highs n i =
    filter (is_between (slice_index lows i) (slice_index highs i)) (column value n i)

abbrev pub far_column : (ℕ → ℕ → ℕ) → List ℕ → List ℕ → ℕ → ℕ → List ℕ
far_column value lows highs n i =
    filter (is_far (slice_index lows i) (slice_index highs i)) (column value n i)

-- the sums of those beyond, in the first n spectra
pub record AreFarSums (value : ℕ → ℕ → ℕ) (cells n : ℕ)
    (lows highs counts totals squares : List ℕ) : Type 0 where
  pub count : (i : ℕ) → i < cells
      → slice_index counts i ≡ length (far_column value lows highs n i)
  pub total : (i : ℕ) → i < cells
      → slice_index totals i ≡ sum_by (λ x. x) (far_column value lows highs n i)
  pub square : (i : ℕ) → i < cells
      → slice_index squares i ≡ sum_by (λ x. x * x) (far_column value lows highs n i)

-- the moments of a cell
abbrev pub moments_held : List ℕ → List ℕ → List ℕ → ℕ → Moments
moments_held counts totals squares i = record {
  count = slice_index counts i;
  total = slice_index totals i;
  squares = slice_index squares i;
}

abbrev pub moments_in : CellMoments → ℕ → Moments
moments_in m = moments_held m.counts.items m.totals.items m.squares.items

-- no more than n values were counted of a cell, and none is above 4194303
abbrev pub AreSmall : ℕ → List ℕ → List ℕ → List ℕ → Type 0
AreSmall n counts totals squares = (i : ℕ) → MomentsWithin n (moments_held counts totals squares i)

abbrev pub IsSmall : ℕ → CellMoments → Type 0
IsSmall n m = AreSmall n m.counts.items m.totals.items m.squares.items

-- sums of at most n values that are no greater
pub record AreBelow (n : ℕ) (totals squares : List ℕ) : Type 0 where
  pub total : (i : ℕ) → slice_index totals i ≤ n * 4194303
  pub square : (i : ℕ) → slice_index squares i ≤ n * 17592177655809

abbrev pub HoldsFar : (ℕ → ℕ → ℕ) → ℕ → ℕ → CellBounds → CellMoments → Type 0
HoldsFar value cells n b m = AreFarSums value cells n b.lows.items b.highs.items m.counts.items
    m.totals.items m.squares.items

-- what was summed up is left out of other sums
pub record LeavesOut (cells : ℕ) (counts totals squares far_counts far_totals far_squares
    counts' totals' squares' : List ℕ) : Type 0 where
  pub count : (i : ℕ) → i < cells
      → slice_index counts' i ≡ slice_index counts i - slice_index far_counts i
  pub total : (i : ℕ) → i < cells
      → slice_index totals' i ≡ slice_index totals i - slice_index far_totals i
  pub square : (i : ℕ) → i < cells
      → slice_index squares' i ≡ slice_index squares i - slice_index far_squares i

abbrev pub LosesFar : ℕ → CellMoments → CellMoments → CellMoments → Type 0
LosesFar cells m far m' = LeavesOut cells m.counts.items m.totals.items m.squares.items
    far.counts.items far.totals.items far.squares.items
    m'.counts.items m'.totals.items m'.squares.items

-- the bounds of a cell hold what lies near the mean of its moments
pub record AreNear (cells : ℕ) (counts totals squares lows highs : List ℕ) : Type 0 where
  pub near : (i x : ℕ) → i < cells → x < 2 ^ 32
      → is_between (slice_index lows i) (slice_index highs i) x
      ≡ is_near (moments_held counts totals squares i) x

abbrev pub HoldsNear : ℕ → CellMoments → CellBounds → Type 0
HoldsNear cells m b =
    AreNear cells m.counts.items m.totals.items m.squares.items b.lows.items b.highs.items
