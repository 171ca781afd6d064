use Rattle.stream_model.proofs.Stops.{continues, none_of_continues}
use Rattle.stream_model.proofs.Transfers.{transfer_is}
use Rattle.stream_model.proofs.walk_laws.headers_continue.Goals as goal

pub returns : goal.returns
returns c = λ s t k are it. let is = transfer_is s t k are it in (continues s t k is, none_of_continues s t k is)
