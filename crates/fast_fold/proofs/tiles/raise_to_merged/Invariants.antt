use Rattle.std.proofs.Common.{◌*◌}
use Rattle.fdmt_rows.specs.Capped.{AreRaised}
use Rattle.fast_fold.specs.Tiles.{MergedUpTo}
use Rattle.fast_fold.proofs.tiles.raise_to_merged.Given as goal

abbrev pub invariant-loop-j : goal.invariant-loop-j
invariant-loop-j l = AreRaised l.fn.most l.raised (MergedUpTo l.halves l.tile.stride l.half (2 * l.j) (l.steps * 16))
