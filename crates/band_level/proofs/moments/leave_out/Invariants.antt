use Rattle.std.proofs.Common.{◌-◌, slice_index}
use Rattle.band_level.proofs.Fills.{Fills}
use Rattle.band_level.proofs.moments.leave_out.Given as goal

abbrev pub invariant-loop-i : goal.invariant-loop-i
invariant-loop-i l = record {
  counts : Fills l.initial.counts l.counts l.i (λ i. slice_index l.initial.counts i - slice_index l.far_counts i);
  totals : Fills l.initial.totals l.totals l.i (λ i. slice_index l.initial.totals i - slice_index l.far_totals i);
  squares : Fills l.initial.squares l.squares l.i (λ i. slice_index l.initial.squares i - slice_index l.far_squares i);
}
