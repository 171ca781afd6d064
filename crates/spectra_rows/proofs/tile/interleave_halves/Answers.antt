use Rattle.spectra_rows.proofs.Tiles.{halves}
use Rattle.spectra_rows.proofs.tile.interleave_halves.Goals as goal

pub returns-clause-turned : goal.returns-clause-turned
returns-clause-turned c = halves c.args.tile c.requires.wide
