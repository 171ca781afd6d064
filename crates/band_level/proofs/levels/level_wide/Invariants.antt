use Rattle.std.proofs.Common.{◌-◌, ◌/◌, ◌%◌, min, slice_index}
use Rattle.band_level.specs.Scales.{unit}
use Rattle.band_level.specs.Rows.{units_at}
use Rattle.band_level.proofs.Fills.{Fills}
use Rattle.band_level.proofs.levels.level_wide.Given as goal

abbrev pub invariant-loop-i : goal.invariant-loop-i
invariant-loop-i l = record {
  levels : Fills l.initial.levels l.levels l.i
      (λ i. min l.most (units_at l.row l.gains l.bases l.initial.fractions i / unit - slice_index l.lifts i));
  fractions : Fills l.initial.fractions l.fractions l.i
      (λ i. units_at l.row l.gains l.bases l.initial.fractions i % unit);
}
