use Rattle.dada_model.proofs.Headers.{headers_read_back}
use Rattle.dada_model.proofs.header_laws.headers_are_read_back.Goals as goal

pub returns : goal.returns
returns c = headers_read_back
