-- The noise that a sum has to stand out of, and the least sum that does.
-- Source: this project's choice.
use Rattle.std.specs.Prelude.{ℕ, ◌^◌, ◌≤◌, ◌<◌, ◌↔◌, Option, Some, None}
use Rattle.search_model.specs.Detection.{IsDetected}

-- the mean and the standard deviation of a sample, in thousandths, and the least signal-to-noise ratio, in hundredths
pub record Noise : Type 0 where
  pub mean : ℕ
  pub sd : ℕ
  pub snr : ℕ

-- each of them lies in its range
pub record AreInRange (mean sd snr : ℕ) : Type 0 where
  pub mean_range : mean ≤ 200000000
  pub sd_range : sd ≤ 200000000
  pub snr_range : snr ≤ 100000

-- a sum of so many cells stands out of the noise
abbrev pub StandsOut : Noise → ℕ → ℕ → Type 0
StandsOut noise sum cells = IsDetected noise.mean noise.sd noise.snr sum cells

-- of the sums below 2^32, exactly those stand out that are at least a least one; with none, no sum does
abbrev pub StandOutFrom : Noise → ℕ → Option ℕ → Type 0
StandOutFrom noise cells (Some least) =
    (sum : ℕ) → sum < 2 ^ 32 → StandsOut noise sum cells ↔ (least ≤ sum)
StandOutFrom noise cells None = (sum : ℕ) → sum < 2 ^ 32 → ¬ StandsOut noise sum cells
