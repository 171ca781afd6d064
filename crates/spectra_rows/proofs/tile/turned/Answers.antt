use Rattle.spectra_rows.proofs.Tiles.{spectra_wide, turned}
use Rattle.spectra_rows.proofs.tile.turned.Goals as goal

pub interleave_halves-requires : goal.interleave_halves-requires
interleave_halves-requires c = record { wide = spectra_wide c.args.bytes.now c.args.at c.args.apart c.requires }

pub returns-clause-turned : goal.returns-clause-turned
returns-clause-turned c =
    turned c.args.bytes.now c.args.at c.args.apart c.interleave_halves.result c.interleave_halves-2.result
    c.interleave_halves-3.result c.interleave_halves-4.result c.interleave_halves.ensures.turned
    c.interleave_halves-2.ensures.turned c.interleave_halves-3.ensures.turned c.interleave_halves-4.ensures.turned
