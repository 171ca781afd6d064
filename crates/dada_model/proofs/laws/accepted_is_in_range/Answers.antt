use Rattle.dada_model.proofs.Band.{ObservationInRange-accepted}
use Rattle.dada_model.proofs.laws.accepted_is_in_range.Goals as goal

pub returns : goal.returns
returns c = ObservationInRange-accepted
