use Rattle.band_level.proofs.SpectraMeans.{spectra_have}
use Rattle.band_level.proofs.laws.spectra_have_the_mean.Goals as goal

pub returns : goal.returns
returns c = spectra_have
