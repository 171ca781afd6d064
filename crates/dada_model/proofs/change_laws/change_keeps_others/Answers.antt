use Rattle.dada_model.proofs.ChangedLaws.{keeps_others}
use Rattle.dada_model.proofs.change_laws.change_keeps_others.Goals as goal

pub returns : goal.returns
returns c = keeps_others
