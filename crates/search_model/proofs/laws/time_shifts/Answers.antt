use Rattle.search_model.proofs.Subbands.{node_shift}
use Rattle.search_model.proofs.laws.time_shifts.Goals as goal

pub returns : goal.returns
returns c = node_shift
