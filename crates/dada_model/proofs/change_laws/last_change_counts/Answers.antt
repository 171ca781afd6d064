use Rattle.dada_model.proofs.ChangedLaws.{last_counts}
use Rattle.dada_model.proofs.change_laws.last_change_counts.Goals as goal

pub returns : goal.returns
returns c = last_counts
