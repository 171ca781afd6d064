use Rattle.search_model.proofs.Subbands.{late_within, late_before}
use Rattle.search_model.proofs.laws.late_path_sums.Goals as goal

pub returns : goal.returns
returns c = record { within = late_within; before = late_before }
