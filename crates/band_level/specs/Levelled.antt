-- A levelled band, and its bytes.
-- Source: this project's choice.
use Rattle.std.specs.Prelude.{ℕ, ◌+◌, ◌-◌, ◌*◌, ◌/◌, ◌%◌, ◌==◌, Bool, false, List, [], ◌∷◌, map, min, sum_by, slice_index_or, if◌then◌else◌}
use Rattle.std.specs.List.{range_with_len, flat_map}
use Rattle.band_level.specs.declared.format.Format.{Format}
use Rattle.band_level.specs.declared.plan.Plan.{Plan}
use Rattle.band_level.specs.Values.{Band, band, cells}
use Rattle.band_level.specs.Moments.{fair_moments}
use Rattle.band_level.specs.Scales.{Scale, scale_of, unit}
use Rattle.band_level.specs.Finished.{finished}

-- what is levelled: how it is read, what it becomes, and which channels are masked, in the order of the file
pub record Task : Type 0 where
  pub format : Format
  pub plan : Plan
  pub masked : List Bool

-- whether the channel of a cell is masked
abbrev pub marks_cell : List Bool → ℕ → ℕ → Bool
marks_cell masked polarisations i = slice_index_or masked (i / polarisations) false

abbrev pub is_masked : Task → ℕ → Bool
is_masked k i = marks_cell k.masked k.format.polarisations i

-- ---- scales

-- how many spectra a stretch has: all of the band, where it has no whole stretch
abbrev pub stretch_spectra : Task → Band → ℕ
stretch_spectra k b = min k.plan.spectra b.spectra

-- the values of a cell in a stretch
abbrev pub stretch_values : Task → Band → ℕ → ℕ → List ℕ
stretch_values k b stretch i =
    map (λ j. b.value (stretch * k.plan.spectra + j) i) (range_with_len 0 (stretch_spectra k b))

-- the scale of a cell by its moments in a stretch
abbrev pub scale_by : Task → Band → ℕ → ℕ → Scale
scale_by k b stretch i =
    scale_of k.plan (is_masked k i) (fair_moments (stretch_values k b stretch i))

-- The stretch by whose moments a spectrum is levelled: its own, or the last whole one where its own is short. A band
-- with no whole stretch is one stretch.
abbrev pub stretch_for : Task → Band → ℕ → ℕ
stretch_for k b t = min (t / k.plan.spectra) (b.spectra / k.plan.spectra - 1)

abbrev pub scale_at : Task → Band → ℕ → ℕ → Scale
scale_at k b t i = scale_by k b (stretch_for k b t) i

-- ---- levels

-- what a cell has in a spectrum, in units
unfoldable pub fine : Task → Band → ℕ → ℕ → ℕ
fine k b i t = (scale_at k b t i).base + (scale_at k b t i).gain * b.value t i

-- and in all spectra before
unfoldable pub fine_before : Task → Band → ℕ → ℕ → ℕ
fine_before k b i t = sum_by (fine k b i) (range_with_len 0 t)

-- The whole values of a cell in a spectrum. What its spectra before left over of a value is carried on, so that the
-- whole values of any spectra are the whole value of their sum.
abbrev pub whole : Task → Band → ℕ → ℕ → ℕ
whole k b i t = fine_before k b i (t + 1) / unit - fine_before k b i t / unit

-- the level of a cell: at least 0, at most the greatest value
abbrev pub level : Task → Band → ℕ → ℕ → ℕ
level k b i t = min k.plan.most (whole k b i t - (scale_at k b t i).lift)

-- the levels of a spectrum
abbrev pub spectrum_values : Task → Band → ℕ → List ℕ
spectrum_values k b t = map (λ i. level k b i t) (range_with_len 0 (cells k.format))

-- ---- bytes

-- a value as it is written, its low byte first
abbrev pub value_bytes : ℕ → ℕ → List ℕ
value_bytes bits v = if bits == 16 then v % 256 ∷ v / 256 ∷ [] else v ∷ []

-- a spectrum as it is written, and the first spectra of a band
unfoldable pub spectrum_levels : Task → Band → ℕ → List ℕ
spectrum_levels k b t = flat_map (value_bytes k.plan.bits)
    (finished k.plan (is_masked k) (spectrum_values k b t))

unfoldable pub first_levels : Task → Band → ℕ → List ℕ
first_levels k b n = flat_map (spectrum_levels k b) (range_with_len 0 n)

-- data bytes, levelled
abbrev pub levelled : Task → List ℕ → List ℕ
levelled k bytes = first_levels k (band k.format bytes) (band k.format bytes).spectra
