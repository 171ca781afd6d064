use Rattle.search_model.proofs.Splits.{part_below, rounded, split_le}
use Rattle.search_model.proofs.laws.splits_fit.Goals as goal

pub returns : goal.returns
returns c = record { fits = split_le; part = part_below; rounded = rounded }
