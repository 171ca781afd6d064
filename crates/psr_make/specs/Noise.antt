-- Noise in bytes.
-- Source: this project's choice.
use Rattle.std.specs.Prelude.{◌≡◌, ℕ, ◌+◌, ◌/◌, ◌%◌, ◌<◌, List, length, slice_index}
use Rattle.psr_make.specs.Draws.{noise, state_after}
use Rattle.psr_make.specs.Made.{byte_of}

-- the values of `wide` bytes are the noise from draw `first` on, and the generator stands after their draws
pub record AreNoise (number first wide state : ℕ) (values : List ℕ) : Type 0 where
  pub bytes : (k : ℕ) → k < length values
      → slice_index values k ≡ byte_of (noise number (first + k / wide)) (k % wide)
  pub stands : state ≡ state_after number (first + length values / wide)

-- the same from wherever a generator stands
abbrev pub FillsNoise : ℕ → ℕ → ℕ → List ℕ → Type 0
FillsNoise wide old_state new_state values =
    (number first : ℕ) → old_state ≡ state_after number first
    → AreNoise number first wide new_state values
