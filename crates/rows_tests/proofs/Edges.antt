-- The edges of a band.
use Rattle.std.proofs.Common.{◌≡◌, ℕ, ◌+◌, ◌-◌, ◌*◌, ◌<◌, List, length, slice_index}

-- the first edges of so many channels: they fall by 250 kHz down to 15 MHz
pub record FallTo (edges : List ℕ) (channels c : ℕ) : Type 0 where
  pub count : length edges ≡ c
  pub values : (k : ℕ) → k < c → slice_index edges k ≡ 15000 + (channels - k) * 250
