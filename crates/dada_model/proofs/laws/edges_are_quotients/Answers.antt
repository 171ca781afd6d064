use Rattle.dada_model.proofs.Edges.{edge_is}
use Rattle.dada_model.proofs.laws.edges_are_quotients.Goals as goal

pub returns : goal.returns
returns c = λ o k r small. edge_is o r k small
