use Rattle.std.proofs.Common.{ℕ, ◌≤◌, List}
use Rattle.box_sums.specs.Excess.{AreAllBelow, AreExcess}
use Rattle.box_sums.proofs.excess.any_may_reach.Given as goal

abbrev pub invariant-loop-wide : goal.invariant-loop-wide
invariant-loop-wide l = record {
  order : l.made.level ≤ l.wide;
  excess : (line : List ℕ) → AreExcess line l.fn.rows l.stride l.base l.total 0 l.greatest
      → AreExcess line l.rows l.stride l.base l.total l.made.level l.made.greatest;
  below : (line : List ℕ) → AreExcess line l.fn.rows l.stride l.base l.total 0 l.greatest
      → AreAllBelow line l.total l.leasts l.wide;
}
