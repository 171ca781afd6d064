use Rattle.band_level.specs.Columns.{AreNear}
use Rattle.band_level.proofs.measure.set_bounds.Given as goal

abbrev pub invariant-loop-i : goal.invariant-loop-i
invariant-loop-i l = AreNear l.i l.counts l.totals l.squares l.lows l.highs
