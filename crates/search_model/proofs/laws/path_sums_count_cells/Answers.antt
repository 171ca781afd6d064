use Rattle.search_model.proofs.Masks.{cells_counted}
use Rattle.search_model.proofs.laws.path_sums_count_cells.Goals as goal

pub returns : goal.returns
returns c = cells_counted
