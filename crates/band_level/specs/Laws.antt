-- The laws on means; functions of this crate carry them.
-- Source: this project's choice.
use Rattle.std.specs.Prelude.{ℕ, ◌≡◌, ◌+◌, ◌*◌, ◌<◌, ◌≤◌, Bool, true, false, List, length, slice_index, sum_by}
use Rattle.std.specs.List.{range_with_len}
use Rattle.band_level.specs.Values.{Band}
use Rattle.band_level.specs.Moments.{fair_moments, distance}
use Rattle.band_level.specs.Ranges.{TaskInRange}
use Rattle.band_level.specs.declared.plan.Plan.{Plan}
use Rattle.band_level.specs.Finished.{kept_before, kept_total, clipped, means, gain, loss, finished}
use Rattle.band_level.specs.Levelled.{Task, stretch_spectra, stretch_values, scale_at, level, whole}

-- nothing is cut of what a cell has in a spectrum
pub record IsUncut (k : Task) (b : Band) (i t : ℕ) : Type 0 where
  pub low : (scale_at k b t i).lift ≤ whole k b i t
  pub high : whole k b i t ≤ (scale_at k b t i).lift + k.plan.most

-- Over a stretch of which no value was left out of the moments and nothing was cut, the sum of the levels of a cell
-- differs by less than two from that many means; both are in thousandths here. The stretch is a whole one, or all
-- spectra of a band that has none.
abbrev pub MeansAreKept : Type 0
MeansAreKept = (k : Task) (b : Band) (stretch i : ℕ) → TaskInRange k →
    let first = stretch * k.plan.spectra in
    let count = stretch_spectra k b in
    first + count ≤ b.spectra →
    (fair_moments (stretch_values k b stretch i)).count ≡ count →
    ((t : ℕ) → first ≤ t → t < first + count → IsUncut k b i t) →
    distance (1000 * sum_by (level k b i) (range_with_len first count)) (count * k.plan.mean) < 2000

-- nothing is cut of value j of n, which sum up to `total`, when the mean is taken out
pub record IsBalanced (p : Plan) (n total j value : ℕ) : Type 0 where
  pub low : loss p n total j ≤ value + gain p n total j
  pub high : value + gain p n total j ≤ p.most + loss p n total j

-- Where the mean of each spectrum is taken out, and nothing is cut by that, the values of a spectrum in all cells that
-- aren't masked sum up to that many means, rounded down.
abbrev pub SpectraHaveTheMean : Type 0
SpectraHaveTheMean = (p : Plan) (is_masked : ℕ → Bool) (values : List ℕ) → p.zero_dm ≡ true →
    ((i : ℕ) → i < length values → is_masked i ≡ false →
    IsBalanced p (kept_before is_masked (length values))
    (kept_total is_masked (clipped p is_masked values)) (kept_before is_masked i)
    (slice_index (clipped p is_masked values) i)) →
    kept_total is_masked (finished p is_masked values)
    ≡ means p (kept_before is_masked (length values))
