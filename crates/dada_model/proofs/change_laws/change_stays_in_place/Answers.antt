use Rattle.dada_model.proofs.ChangedLaws.{stays_in_place}
use Rattle.dada_model.proofs.change_laws.change_stays_in_place.Goals as goal

pub returns : goal.returns
returns c = stays_in_place
