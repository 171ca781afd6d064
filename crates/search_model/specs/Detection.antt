-- The detection rule: a sum of samples stands out of the noise by the stated snr, equality included.
-- Source: this project's choice.
use Rattle.std.specs.Prelude.{ℕ, ◌-◌, ◌*◌, ◌^◌, ◌≤◌, ◌<◌, Bool, ◌&&◌, nat_lt, nat_le}

-- how far the sum of so many cells is above their mean, in thousandths, as the mean of a sample is
abbrev pub excess : ℕ → ℕ → ℕ → ℕ
excess mean sum cells = 1000 * sum - cells * mean

-- The excess D is positive, and D / 1000 is at least snr / 100 times sd / 1000 times the root of the cells.
-- The mean and the standard deviation of a sample are in thousandths, the signal-to-noise ratio in hundredths.
pub record IsDetected (mean sd snr sum cells : ℕ) : Type 0 where
  pub above : cells * mean < 1000 * sum
  pub far : snr ^ 2 * sd ^ 2 * cells ≤ 10000 * excess mean sum cells ^ 2

-- the same as a test
abbrev pub is_detected : ℕ → ℕ → ℕ → ℕ → ℕ → Bool
is_detected mean sd snr sum cells =
    nat_lt (cells * mean) (1000 * sum)
    && nat_le (snr ^ 2 * sd ^ 2 * cells) (10000 * excess mean sum cells ^ 2)
