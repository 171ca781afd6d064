use Rattle.band_level.proofs.Scales.{root_is}
use Rattle.band_level.proofs.scale.root_of.Goals as goal

pub returns-clause-root : goal.returns-clause-root
returns-clause-root c = root_is c.args.v c.isqrt.result c.isqrt.ensures.square_le c.isqrt.ensures.next_square_gt
