use Rattle.search_model.proofs.Order.{rising_same, merged_same}
use Rattle.search_model.proofs.laws.rising_lists_agree.Goals as goal

pub returns : goal.returns
returns c = record { lists = rising_same; merges = merged_same }
