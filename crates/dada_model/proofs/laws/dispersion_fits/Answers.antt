use Rattle.dada_model.proofs.Edges.{dm_fits}
use Rattle.dada_model.proofs.laws.dispersion_fits.Goals as goal

pub returns : goal.returns
returns c = λ o d r low. dm_fits o r d low
