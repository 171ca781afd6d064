use Rattle.search_model.proofs.Subbands.{one_channel_more}
use Rattle.search_model.proofs.laws.one_channel_adds.Goals as goal

pub returns : goal.returns
returns c = one_channel_more
