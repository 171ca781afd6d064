use Rattle.std.proofs.Common.{◌%◌, slice_index}
use Rattle.band_level.specs.Scales.{unit}
use Rattle.band_level.proofs.Fills.{Fills}
use Rattle.band_level.proofs.levels.keep_fractions.Given as goal

abbrev pub invariant-loop-i : goal.invariant-loop-i
invariant-loop-i l =
    Fills l.initial.units l.units l.i (λ i. slice_index l.initial.units i % unit)
