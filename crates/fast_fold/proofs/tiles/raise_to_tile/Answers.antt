use Rattle.std.proofs.Common.{refl, ◌*◌}
use Rattle.fast_fold.proofs.Tiling.{raised_to_trials}
use Rattle.fast_fold.proofs.tiles.raise_to_tile.Goals as goal

pub returns : goal.returns
returns c =
    raised_to_trials c.args.most _ c.fold_halves.new.out c.args.values.now c.args.tile.base c.args.tile.period
    c.args.tile.start (c.args.tile.steps * 16) c.args.tile.stride c.args.rows c.args.level _ (c.args.steps * 16)
    c.requires.rows refl c.requires.shifted c.fold_halves.ensures c.raise_to_merged.ensures
