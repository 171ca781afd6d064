use Rattle.std.proofs.Common.{◌+◌, slice_index}
use Rattle.band_level.proofs.Fills.{Fills}
use Rattle.band_level.proofs.moments.add_totals.Given as goal

abbrev pub invariant-loop-i : goal.invariant-loop-i
invariant-loop-i l =
    Fills l.initial.totals l.totals l.i (λ i. slice_index l.initial.totals i + slice_index l.row i)
