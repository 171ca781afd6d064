use Rattle.band_level.specs.Rows.{units_at}
use Rattle.band_level.proofs.Fills.{Fills}
use Rattle.band_level.proofs.levels.add_units.Given as goal

abbrev pub invariant-loop-i : goal.invariant-loop-i
invariant-loop-i l =
    Fills l.initial.fractions l.fractions l.i (units_at l.row l.gains l.bases l.initial.fractions)
