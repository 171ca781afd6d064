-- The edges of a band.
-- Source: this project's choice.
use Rattle.std.specs.Prelude.{◌≡◌, ℕ, ◌+◌, ◌≤◌, ◌<◌, List, length, slice_index}

-- the greatest edge of a band, 2^24 kHz
abbrev pub top_khz : ℕ
top_khz = 16777216

-- the greatest centre of a band, in Hz
abbrev pub most_centre_hz : ℕ
most_centre_hz = 16000000000

-- the most channels of a band
abbrev pub most_channels : ℕ
most_channels = 4096

-- what holds of the edges of n channels in kHz, from the top of the band down to its foot: they are positive, fall
-- strictly, and lie within the greatest edge, and there are 2 channels or more, within the most
pub record AreEdges (n : ℕ) (edges : List ℕ) : Type 0 where
  pub count : length edges ≡ n + 1
  pub few : 2 ≤ n
  pub many : n ≤ most_channels
  pub top : slice_index edges 0 ≤ top_khz
  pub falls : (i k : ℕ) → i < k → k ≤ n → slice_index edges k < slice_index edges i
  pub positive : (k : ℕ) → k ≤ n → 0 < slice_index edges k
