use Rattle.std.proofs.Common.{◌*◌, [], take}
use Rattle.band_level.specs.Values.{cells, most_value}
use Rattle.band_level.specs.Rows.{HasRows, Narrows}
use Rattle.band_level.specs.Sound.{task_in}
use Rattle.band_level.specs.Spectra.{LevelsSpectra}
use Rattle.band_level.proofs.spectra.level_spectra.Given as goal

abbrev pub invariant-loop-t : goal.invariant-loop-t
invariant-loop-t l = record {
  rows : HasRows (cells l.task.format) l.rows;
  narrow : Narrows (cells l.task.format) (most_value l.task.format) l.scales l.rows.narrow;
  levels : LevelsSpectra (task_in l.task) l.held l.scales.gains.items l.scales.bases.items l.scales.lifts.items
      l.first l.t l.fn.rows.fractions.items l.rows.fractions.items [] (take (l.t * l.written) l.out);
}
