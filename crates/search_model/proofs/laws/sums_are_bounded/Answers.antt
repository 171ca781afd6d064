use Rattle.search_model.proofs.Subbands.{path_sum_le, box_sum_le}
use Rattle.search_model.proofs.laws.sums_are_bounded.Goals as goal

pub returns : goal.returns
returns c = record { path = path_sum_le; box = box_sum_le }
