-- Blocks that are full of one byte.
-- Source: this project's choice.
use Rattle.std.specs.Prelude.{◌≡◌, ℕ, ◌<◌, List, slice_index}

-- all 32 lanes are 0
abbrev pub AreZero : List ℕ → Type 0
AreZero lanes = (k : ℕ) → k < 32 → slice_index lanes k ≡ 0

-- the first bytes of a block, so many, are this one
abbrev pub IsFullTo : List ℕ → ℕ → ℕ → Type 0
IsFullTo block byte count = (k : ℕ) → k < count → slice_index block k ≡ byte
