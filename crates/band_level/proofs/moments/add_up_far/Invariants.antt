use Rattle.band_level.specs.Values.{cells}
use Rattle.band_level.specs.Holding.{held_value}
use Rattle.band_level.specs.Columns.{AreFarSums, AreSmall}
use Rattle.band_level.proofs.moments.add_up_far.Given as goal

abbrev pub invariant-loop-t : goal.invariant-loop-t
invariant-loop-t l = record {
  sums : AreFarSums (held_value l.format l.held) (cells l.format) l.t l.lows l.highs l.counts l.totals l.squares;
  small : AreSmall l.t l.counts l.totals l.squares;
}
