use Rattle.dada_model.proofs.ChangedLaws.{changed_read_back}
use Rattle.dada_model.proofs.change_laws.changed_is_read_back.Goals as goal

pub returns : goal.returns
returns c = changed_read_back
