use Rattle.search_model.proofs.Subbands.{one_sample}
use Rattle.search_model.proofs.laws.one_channel_is_its_sample.Goals as goal

pub returns : goal.returns
returns c = one_sample
