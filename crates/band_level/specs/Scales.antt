-- Gain and offset of a cell, in fixed point: units, of which a written value has 2^20.
-- Source: this project's choice.
use Rattle.std.specs.Prelude.{ℕ, ◌+◌, ◌-◌, ◌*◌, ◌/◌, ◌==◌, Bool, min, count_by, nat_le, if◌then◌else◌}
use Rattle.std.specs.List.{range_with_len}
use Rattle.band_level.specs.declared.plan.Plan.{Plan}
use Rattle.band_level.specs.Moments.{Moments, spread}

-- how many units a value has
abbrev pub unit : ℕ
unit = 1048576

-- the square root, rounded down: how many numbers from 1 on have a square that is no greater
unfoldable pub root : ℕ → ℕ
root v = count_by (λ d. nat_le (d * d) v) (range_with_len 1 v)

-- A value x becomes base + gain * x units, less `lift` values. The lift keeps every number from falling below 0; it is
-- taken off again before a value is written.
pub record Scale : Type 0 where
  pub gain : ℕ
  pub base : ℕ
  pub lift : ℕ

-- no gain is greater: 2^20 values for a step of 1
abbrev pub most_gain : ℕ
most_gain = 1099511627776

-- the units that a step of 1 makes, where d is the root of the spread; none where values never change
abbrev pub gain_for : Plan → Moments → ℕ → ℕ
gain_for p m d =
    if d == 0 then 0 else min (p.deviation * m.count * unit / (1000 * d)) most_gain

-- the lift of a gain: what the gain makes of the mean of the values, in whole values, rounded up
abbrev pub lift_for : Moments → ℕ → ℕ
lift_for m gain = gain * m.total / (m.count * unit) + 1

-- with this gain the mean of the values becomes that of the plan, rounded down
abbrev pub scale_for : Plan → Moments → ℕ → Scale
scale_for p m gain = record {
  gain = gain;
  base = (p.mean * m.count * unit / 1000 + m.count * unit * lift_for m gain - gain * m.total)
      / m.count;
  lift = lift_for m gain;
}

-- the scale of a cell that has these moments; a masked one has the mean of the plan alone
abbrev pub scale_of : Plan → Bool → Moments → Scale
scale_of p is_masked m =
    scale_for p m (if is_masked then 0 else gain_for p m (root (spread m)))
