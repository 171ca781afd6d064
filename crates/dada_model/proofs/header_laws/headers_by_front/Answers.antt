use Rattle.dada_model.proofs.Headers.{same_front}
use Rattle.dada_model.proofs.header_laws.headers_by_front.Goals as goal

pub returns : goal.returns
returns c = same_front
