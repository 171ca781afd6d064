use Rattle.search_model.proofs.Cells.{cell_count}
use Rattle.search_model.proofs.laws.cells_are_counted.Goals as goal

pub returns : goal.returns
returns c = cell_count
