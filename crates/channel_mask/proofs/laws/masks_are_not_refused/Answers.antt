use Rattle.channel_mask.proofs.Marks.{not_refused}
use Rattle.channel_mask.proofs.laws.masks_are_not_refused.Goals as goal

pub returns : goal.returns
returns c = not_refused
