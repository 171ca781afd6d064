use Rattle.std.proofs.Common.{◌+◌, ◌-◌, ◌*◌, length}
use Rattle.beam_set.proofs.rounds.+halves.Given as goal

abbrev pub decreases-drive_from : goal.decreases-drive_from
decreases-drive_from g l = 4 * length l.beams.now.items

abbrev pub decreases-drive_halves : goal.decreases-drive_halves
decreases-drive_halves g l = 4 * (length l.left.now.items + length l.right.now.items) - 1

abbrev pub decreases-drive_halves-one : goal.decreases-drive_halves-one
decreases-drive_halves-one g l = 4 * length l.left.now.items + 1

abbrev pub decreases-drive_halves-other : goal.decreases-drive_halves-other
decreases-drive_halves-other g l = 4 * length l.right.now.items + 1
