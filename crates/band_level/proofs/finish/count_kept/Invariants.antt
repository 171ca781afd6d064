use Rattle.std.proofs.Common.{◌≡◌, ◌≤◌}
use Rattle.band_level.specs.Levelled.{marks_cell}
use Rattle.band_level.specs.Finished.{kept_before}
use Rattle.band_level.proofs.finish.count_kept.Given as goal

abbrev pub invariant-loop-i : goal.invariant-loop-i
invariant-loop-i l = record {
  count : l.count ≡ kept_before (marks_cell l.masked l.polarisations) l.i;
  few : l.count ≤ l.i;
}
