use Rattle.dada_model.proofs.Headers.{blank_read_back}
use Rattle.dada_model.proofs.header_laws.blank_is_read_back.Goals as goal

pub returns : goal.returns
returns c = blank_read_back
