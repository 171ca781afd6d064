-- What the steps of a leveller leave.
-- Source: this project's choice.
use Rattle.std.specs.Prelude.{ℕ, ◌≡◌, ◌+◌, ◌*◌, ◌<◌, ◌≤◌, true, List, []}
use Rattle.band_level.specs.Values.{cells, spectrum_bytes}
use Rattle.band_level.specs.Holding.{Holding, held_value}
use Rattle.band_level.specs.Moments.{fair_moments}
use Rattle.band_level.specs.Columns.{column}
use Rattle.band_level.specs.Scales.{scale_of}
use Rattle.band_level.specs.Rows.{HoldScales}
use Rattle.band_level.specs.Levelled.{Task, is_masked}
use Rattle.band_level.specs.Spectra.{LevelsSpectra}
use Rattle.band_level.specs.Levelling.{Levelling}

-- how many bytes a stretch has
abbrev pub stretch_bytes : Task → ℕ
stretch_bytes k = k.plan.spectra * spectrum_bytes k.format

-- the scales of the first spectra that are held
abbrev pub HeldScales : Levelling → Holding → ℕ → List ℕ → List ℕ → List ℕ → Type 0
HeldScales l held count gains bases lifts = HoldScales (cells l.task.format)
    (λ i. scale_of l.task.plan (is_masked l.task i)
    (fair_moments (column (held_value l.task.format held) count i)))
    gains bases lifts

-- they are made
pub record Measures (l m : Levelling) (count : ℕ) : Type 0 where
  pub same : m
      ≡ record l { gains = m.gains; bases = m.bases; lifts = m.lifts; is_scaled = true }
  pub scales : HeldScales l l.held count m.gains m.bases m.lifts

-- some of the next spectra are levelled
pub record MakesPiece (l m : Levelling) : Type 0 where
  pub count : ℕ
  pub some : 0 < count
  pub few : l.first + count ≤ l.last
  pub same : m ≡ record l { fractions = m.fractions; piece = m.piece; first = l.first + count }
  pub levels : LevelsSpectra l.task l.held l.gains l.bases l.lifts
      l.first count l.fractions m.fractions [] m.piece
