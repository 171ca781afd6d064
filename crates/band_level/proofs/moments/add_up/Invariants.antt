use Rattle.std.proofs.Common.{ℕ, ◌<◌, ◌≤◌}
use Rattle.band_level.specs.Values.{cells}
use Rattle.band_level.specs.Holding.{held_value}
use Rattle.band_level.specs.Columns.{AreTotals, AreBelow}
use Rattle.band_level.proofs.moments.add_up.Given as goal

abbrev pub invariant-loop-t : goal.invariant-loop-t
invariant-loop-t l = record {
  sums : AreTotals (held_value l.format l.held) (cells l.format) l.t l.totals l.squares;
  small : AreBelow l.t l.totals l.squares;
  values : (t i : ℕ) → t < l.t → i < cells l.format → held_value l.format l.held t i ≤ 4194303;
}
