use Rattle.run_outcome.proofs.Endings.{five_is, six_is}
use Rattle.run_outcome.proofs.ends.statuses_say_stops.Goals as goal

pub returns : goal.returns
returns c = record { memory = five_is; read_fault = six_is }
