use Rattle.dada_model.proofs.Headers.{header_from_read_back}
use Rattle.dada_model.proofs.header_laws.headers_are_text.Goals as goal

pub returns : goal.returns
returns c = header_from_read_back
