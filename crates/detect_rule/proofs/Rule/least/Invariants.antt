use Rattle.std.proofs.Common.{ℕ, ◌-◌, ◌^◌, ◌<◌, ◌≤◌}
use Rattle.detect_rule.specs.Noise.{StandsOut}
use Rattle.detect_rule.proofs.Rule.least.Given as goal

-- no sum below `low` is detected, and each from `high` on
abbrev pub invariant-loop-low : goal.invariant-loop-low
invariant-loop-low l = record {
  order : l.low ≤ l.high;
  end : l.high ≤ 2 ^ 32;
  below : (sum : ℕ) → sum < l.low → ¬ StandsOut l.self sum l.cells;
  above : (sum : ℕ) → sum < 2 ^ 32 → l.high ≤ sum → StandsOut l.self sum l.cells;
}

abbrev pub decreases-loop-low : goal.decreases-loop-low
decreases-loop-low l = l.high - l.low
