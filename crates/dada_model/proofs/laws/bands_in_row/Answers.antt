use Rattle.dada_model.proofs.Band.{band_from, band_when}
use Rattle.dada_model.proofs.laws.bands_in_row.Goals as goal

pub returns : goal.returns
returns c = λ o z positive. (band_from o positive z, band_when o positive z)
