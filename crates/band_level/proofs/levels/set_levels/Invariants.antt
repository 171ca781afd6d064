use Rattle.std.proofs.Common.{◌-◌, ◌/◌, min, slice_index}
use Rattle.band_level.specs.Scales.{unit}
use Rattle.band_level.proofs.Fills.{Fills}
use Rattle.band_level.proofs.levels.set_levels.Given as goal

abbrev pub invariant-loop-i : goal.invariant-loop-i
invariant-loop-i l =
    Fills l.initial.levels l.levels l.i (λ i. min l.most (slice_index l.units i / unit - slice_index l.lifts i))
