use Rattle.std.proofs.Common.{◌+◌, slice_index}
use Rattle.band_level.specs.Values.{value_at}
use Rattle.band_level.proofs.Fills.{Fills}
use Rattle.band_level.proofs.row.add_bytes.Given as goal

abbrev pub invariant-loop-i : goal.invariant-loop-i
invariant-loop-i l = Fills l.initial.row l.row l.i
    (λ i. slice_index l.initial.row i + value_at l.format l.bytes (l.start + i))
