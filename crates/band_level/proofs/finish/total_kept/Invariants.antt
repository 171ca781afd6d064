use Rattle.std.proofs.Common.{◌≡◌, ◌*◌, ◌≤◌}
use Rattle.band_level.specs.Levelled.{marks_cell}
use Rattle.band_level.specs.Finished.{kept_sum}
use Rattle.band_level.proofs.finish.total_kept.Given as goal

abbrev pub invariant-loop-i : goal.invariant-loop-i
invariant-loop-i l = record {
  total : l.total ≡ kept_sum (marks_cell l.masked l.polarisations) l.levels l.i;
  small : l.total ≤ l.i * 65535;
}
