-- Spectra of a band that are held, and are levelled.
-- Source: this project's choice.
use Rattle.std.specs.Prelude.{ℕ, ◌≡◌, ◌+◌, ◌*◌, ◌/◌, ◌%◌, ◌<◌, ◌++◌, Bool, List, slice_index}
use Rattle.std.specs.List.{range_with_len, flat_map}
use Rattle.band_level.specs.declared.format.Format.{Format}
use Rattle.band_level.specs.declared.plan.Plan.{Plan}
use Rattle.band_level.specs.Values.{Band, cells}
use Rattle.band_level.specs.Holding.{Holding, held_value}
use Rattle.band_level.specs.Scales.{unit}
use Rattle.band_level.specs.Levelled.{Task, scale_at, fine_before, spectrum_levels}
use Rattle.band_level.specs.Rows.{HoldScales}

-- how many bytes of a levelled spectrum are written
abbrev pub written_bytes : Format → Plan → ℕ
written_bytes f p = cells f * (p.bits / 8)

-- what each cell has carried on to a spectrum of a band
abbrev pub Carried : Task → Band → ℕ → List ℕ → Type 0
Carried k b t fractions =
    (i : ℕ) → i < cells k.format → slice_index fractions i ≡ fine_before k b i t % unit

-- the spectra of a band from `start` on are those that are held from `first` on, and the scales are theirs
pub record AreHeld (k : Task) (b : Band) (start count : ℕ) (held : Holding) (first : ℕ)
    (gains bases lifts : List ℕ) : Type 0 where
  pub values : (t i : ℕ) → t < count → i < cells k.format
      → held_value k.format held (first + t) i ≡ b.value (start + t) i
  pub scales : (t : ℕ) → t < count
      → HoldScales (cells k.format) (scale_at k b (start + t)) gains bases lifts

-- what was carried on from spectra to those after them, and how their bytes came behind others
pub record AreLevelled (k : Task) (b : Band) (start count : ℕ) (new before after : List ℕ)
    : Type 0 where
  pub carried : Carried k b (start + count) new
  pub written : after ≡ before ++ flat_map (spectrum_levels k b) (range_with_len start count)

abbrev pub task_of : Format → Plan → List Bool → Task
task_of f p masked = record { format = f; plan = p; masked = masked }

-- spectra that are held are levelled, of whichever band they are
abbrev pub LevelsSpectra : Task → Holding → List ℕ → List ℕ → List ℕ → ℕ → ℕ
    → List ℕ → List ℕ → List ℕ → List ℕ → Type 0
LevelsSpectra k held gains bases lifts first count old new before after =
    (b : Band) (start : ℕ)
    → AreHeld k b start count held first gains bases lifts
    → Carried k b start old
    → AreLevelled k b start count new before after
