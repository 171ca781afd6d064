-- How a row of values is levelled and written.
-- Source: this project's choice.
use Rattle.std.specs.Prelude.{ℕ, ◌≡◌, ◌+◌, ◌-◌, ◌*◌, ◌/◌, ◌%◌, ◌^◌, ◌<◌, ◌≤◌, Bool, true, List, length, min, slice_index}
use Rattle.band_level.specs.declared.plan.Plan.{Plan}
use Rattle.band_level.specs.declared.cells.CellMoments.{CellMoments}
use Rattle.band_level.specs.declared.cells.CellBounds.{CellBounds}
use Rattle.band_level.specs.declared.cells.CellScales.{CellScales}
use Rattle.band_level.specs.declared.cells.NarrowScales.{NarrowScales}
use Rattle.band_level.specs.declared.cells.CellRows.{CellRows}
use Rattle.band_level.specs.declared.cells.CellSpace.{CellSpace}
use Rattle.band_level.specs.Moments.{Moments}
use Rattle.band_level.specs.Scales.{Scale, scale_of, unit, most_gain}

-- what a cell comes to, in units, with what was carried on
abbrev pub units_at : List ℕ → List ℕ → List ℕ → List ℕ → ℕ → ℕ
units_at row gains bases fractions i =
    slice_index bases i + slice_index gains i * slice_index row i + slice_index fractions i

-- a row is levelled: the whole values without their lift, cut at 0 and at the greatest; their fractions are carried on
pub record LevelsRow (most : ℕ) (row gains bases lifts fractions levels fractions' : List ℕ)
    : Type 0 where
  pub level : (i : ℕ) → i < length row → slice_index levels i
      ≡ min most (units_at row gains bases fractions i / unit - slice_index lifts i)
  pub fraction : (i : ℕ) → i < length row → slice_index fractions' i
      ≡ units_at row gains bases fractions i % unit

-- scales of so many cells, with small numbers
pub record ScalesFit (cells : ℕ) (gains bases lifts : List ℕ) : Type 0 where
  pub gains_long : length gains ≡ cells
  pub bases_long : length bases ≡ cells
  pub lifts_long : length lifts ≡ cells
  pub gain : (i : ℕ) → slice_index gains i ≤ most_gain
  pub base : (i : ℕ) → slice_index bases i ≤ 68719476736

abbrev pub HasScales : ℕ → CellScales → Type 0
HasScales cells s = ScalesFit cells s.gains.items s.bases.items s.lifts.items

-- the scale of a cell
abbrev pub scale_held : List ℕ → List ℕ → List ℕ → ℕ → Scale
scale_held gains bases lifts i = record {
  gain = slice_index gains i;
  base = slice_index bases i;
  lift = slice_index lifts i;
}

abbrev pub scale_in : CellScales → ℕ → Scale
scale_in s = scale_held s.gains.items s.bases.items s.lifts.items

-- the scales of cells are these
abbrev pub HoldScales : ℕ → (ℕ → Scale) → List ℕ → List ℕ → List ℕ → Type 0
HoldScales cells scale gains bases lifts =
    (i : ℕ) → i < cells → scale_held gains bases lifts i ≡ scale i

-- the scale of a cell in 32 bits, with room for all that is made of values up to `most`
pub record NarrowAt (most gain base lift g b l : ℕ) : Type 0 where
  pub same_gain : g ≡ gain
  pub same_base : b ≡ base
  pub same_lift : l ≡ lift
  pub room : base + gain * most + unit ≤ 2 ^ 32

-- the scales of cells in 32 bits
abbrev pub AreNarrow : ℕ → ℕ → List ℕ → List ℕ → List ℕ → List ℕ → List ℕ → List ℕ → Type 0
AreNarrow cells most gains bases lifts narrow_gains narrow_bases narrow_lifts =
    (i : ℕ) → i < cells → NarrowAt most (slice_index gains i) (slice_index bases i)
    (slice_index lifts i) (slice_index narrow_gains i) (slice_index narrow_bases i)
    (slice_index narrow_lifts i)

abbrev pub Narrows : ℕ → ℕ → CellScales → NarrowScales → Type 0
Narrows cells most s n = n.fits ≡ true → AreNarrow cells most s.gains.items s.bases.items
    s.lifts.items n.gains.items n.bases.items n.lifts.items

-- three lists have a number for each cell
pub record AreLong (cells : ℕ) (xs ys zs : List ℕ) : Type 0 where
  pub first : length xs ≡ cells
  pub second : length ys ≡ cells
  pub third : length zs ≡ cells

abbrev pub HasMoments : ℕ → CellMoments → Type 0
HasMoments cells m = AreLong cells m.counts.items m.totals.items m.squares.items

pub record BoundsLong (cells : ℕ) (lows highs : List ℕ) : Type 0 where
  pub lows_long : length lows ≡ cells
  pub highs_long : length highs ≡ cells

abbrev pub HasBounds : ℕ → CellBounds → Type 0
HasBounds cells b = BoundsLong cells b.lows.items b.highs.items

abbrev pub HasNarrow : ℕ → NarrowScales → Type 0
HasNarrow cells n = AreLong cells n.gains.items n.bases.items n.lifts.items

-- what was carried on, and lists of working space
pub record RowsFit (cells : ℕ) (fractions row levels : List ℕ) : Type 0 where
  pub fractions_long : length fractions ≡ cells
  pub carried : (i : ℕ) → slice_index fractions i < unit
  pub row_long : length row ≡ cells
  pub levels_long : length levels ≡ cells

pub record HasRows (cells : ℕ) (r : CellRows) : Type 0 where
  pub rows : RowsFit cells r.fractions.items r.row.items r.levels.items
  pub narrow : HasNarrow cells r.narrow

-- each cell of which values were counted has the scale of its moments; others keep theirs
pub record SetsScales (cells : ℕ) (p : Plan) (is_masked : ℕ → Bool) (moments : ℕ → Moments)
    (old new : ℕ → Scale) : Type 0 where
  pub set : (i : ℕ) → i < cells → 0 < (moments i).count
      → new i ≡ scale_of p (is_masked i) (moments i)
  pub kept : (i : ℕ) → (moments i).count ≡ 0 → new i ≡ old i

-- working space for the sums of each cell
pub record SpaceFits (cells : ℕ) (s : CellSpace) : Type 0 where
  pub moments : HasMoments cells s.moments
  pub bounds : HasBounds cells s.bounds
  pub far : HasMoments cells s.far
