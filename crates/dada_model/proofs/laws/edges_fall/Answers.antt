use Rattle.dada_model.proofs.Edges.{AreEdges-edges}
use Rattle.dada_model.proofs.laws.edges_fall.Goals as goal

pub returns : goal.returns
returns c = AreEdges-edges
