use Rattle.channel_mask.proofs.FrontReads.{stops, whole}
use Rattle.channel_mask.proofs.laws.fronts_are_read.Goals as goal

pub returns : goal.returns
returns c = record { stops = stops; whole = whole }
