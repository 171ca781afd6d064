use Rattle.dada_model.proofs.Band.{accepted_by_rows}
use Rattle.dada_model.proofs.laws.accepted_by_rows.Goals as goal

pub returns : goal.returns
returns c = accepted_by_rows
