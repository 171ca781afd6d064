use Rattle.channel_mask.proofs.Spelled.{spelled}
use Rattle.channel_mask.proofs.laws.masks_are_spelled.Goals as goal

pub returns : goal.returns
returns c = spelled
