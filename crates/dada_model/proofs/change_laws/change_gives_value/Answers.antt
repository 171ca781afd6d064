use Rattle.dada_model.proofs.ChangedLaws.{gives_value}
use Rattle.dada_model.proofs.change_laws.change_gives_value.Goals as goal

pub returns : goal.returns
returns c = gives_value
