use Rattle.std.proofs.Common.{◌*◌}
use Rattle.fast_fold.specs.Tiles.{AreMergedTrials}
use Rattle.fast_fold.proofs.tiles.merge_halves.Given as goal

abbrev pub invariant-loop-j : goal.invariant-loop-j
invariant-loop-j l = AreMergedTrials l.out l.halves l.tile.stride (l.tile.steps * 16) l.half (2 * l.j)
