-- The edges of the band.
use Rattle.std.proofs.Common.{◌≡◌, ℕ, ◌-◌, ◌*◌, ◌/◌, ◌<◌, List, length, slice_index}

-- the first edges: they fall by 400 MHz over 1024 channels, each rounded up
pub record FallTo (edges : List ℕ) (c : ℕ) : Type 0 where
  pub count : length edges ≡ c
  pub values : (k : ℕ) → k < c → slice_index edges k ≡ 1582000 - k * 400000 / 1024
