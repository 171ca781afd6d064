use Rattle.search_model.proofs.Subbands.{node_before}
use Rattle.search_model.proofs.laws.nothing_before.Goals as goal

pub returns : goal.returns
returns c = node_before
