use Rattle.std.proofs.Common.{ℕ, ◌-◌, ◌≤◌, List}
use Rattle.box_sums.specs.Excess.{AreExcess}
use Rattle.box_sums.proofs.excess.refine.Given as goal

abbrev pub decreases-loop-made : goal.decreases-loop-made
decreases-loop-made l = l.wide - l.made.level

abbrev pub invariant-loop-made : goal.invariant-loop-made
invariant-loop-made l = record {
  more : l.fn.made.level ≤ l.made.level;
  within : l.made.level ≤ l.wide;
  excess : (line : List ℕ) → AreExcess line l.fn.rows l.stride l.base l.total l.fn.made.level l.fn.made.greatest
      → AreExcess line l.rows l.stride l.base l.total l.made.level l.made.greatest;
}
