use Rattle.dada_model.proofs.ChangedLaws.{blank_length}
use Rattle.dada_model.proofs.change_laws.blank_keeps_length.Goals as goal

pub returns : goal.returns
returns c = blank_length
