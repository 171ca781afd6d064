use Rattle.std.proofs.Common.{◌+◌, ◌*◌}
use Rattle.fast_fold.proofs.tiles.+fold.Given as goal

abbrev pub decreases-fold_rows : goal.decreases-fold_rows
decreases-fold_rows l = 2 * l.level

abbrev pub decreases-fold_halves : goal.decreases-fold_halves
decreases-fold_halves l = 2 * l.level + 1
