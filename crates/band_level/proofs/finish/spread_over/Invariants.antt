use Rattle.std.proofs.Common.{◌≡◌, ◌<◌}
use Rattle.band_level.specs.Levelled.{marks_cell}
use Rattle.band_level.specs.Finished.{kept_before}
use Rattle.band_level.specs.Shares.{left_over, spread_level}
use Rattle.band_level.proofs.Fills.{Fills}
use Rattle.band_level.proofs.finish.spread_over.Given as goal

abbrev pub invariant-loop-i : goal.invariant-loop-i
invariant-loop-i l = record {
  below : l.left < l.spread.count;
  left : l.left ≡ left_over l.spread (kept_before (marks_cell l.masked l.polarisations) l.i);
  levels : Fills l.initial.levels l.levels l.i
      (spread_level l.spread (marks_cell l.masked l.polarisations) l.initial.levels);
}
