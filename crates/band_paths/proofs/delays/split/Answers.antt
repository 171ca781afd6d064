use Rattle.std.proofs.Common.{arith}
use Rattle.band_paths.proofs.Bands.{edge_le}
use Rattle.band_paths.proofs.delays.split.Goals as goal

pub share-requires-clause-top : goal.share-requires-clause-top
share-requires-clause-top c = edge_le c.args.edges.now c.requires.edges c.args.lo (omega arith)
