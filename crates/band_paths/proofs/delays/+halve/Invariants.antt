use Rattle.std.proofs.Common.{◌-◌}
use Rattle.band_paths.proofs.delays.+halve.Given as goal

abbrev pub decreases-halve : goal.decreases-halve
decreases-halve l = l.hi - l.lo
