use Rattle.band_level.proofs.Means.{means}
use Rattle.band_level.proofs.laws.means_are_kept.Goals as goal

pub returns : goal.returns
returns c = means
