use Rattle.std.proofs.Common.{◌+◌, slice_index}
use Rattle.band_level.proofs.Fills.{Fills}
use Rattle.band_level.proofs.sums.read_wide.Given as goal

abbrev pub invariant-loop-i : goal.invariant-loop-i
invariant-loop-i l = Fills l.initial.row l.row l.i (λ i. slice_index l.values (l.at + i))
