-- The numbers of a header in their rows.
-- Source: PSRDADA manual (the keywords); the ranges are this project's choice.
use Rattle.std.specs.Prelude.{◌≡◌, ℕ, ◌+◌, ◌*◌, ◌<◌, ◌≤◌, ◌^◌, List, true, false, Ok, ℤ, unsigned_abs}
use Rattle.dada_model.specs.declared.key.Key.{Key}
use Rattle.dada_model.specs.Edges.{top_khz}
use Rattle.dada_model.specs.Fields.{Field}
use Rattle.dada_model.specs.Observation.{number_of, observation_in, is_in_row}

-- a number that is too large to be read lies outside the key's row
abbrev pub LargeIsOutside : List Field → Key → Type 0
LargeIsOutside fields key = (z : ℤ) → number_of fields key ≡ Ok z → 10 ^ 18 < unsigned_abs z →
    is_in_row (observation_in fields) key z ≡ false

-- a key has a number, and it lies in the key's row
pub record IsTaken (fields : List Field) (key : Key) (z : ℤ) : Type 0 where
  pub is : number_of fields key ≡ Ok z
  pub in_row : is_in_row (observation_in fields) key z ≡ true

-- a band in Hz has its foot at 1 kHz or above and its top at the greatest edge or below, rounded down
abbrev pub IsBand : ℕ → ℕ → Type 0
IsBand width centre =
    (0 < width) × (width + 2000 ≤ 2 * centre) × (2 * centre + width < 2000 * (top_khz + 1))
