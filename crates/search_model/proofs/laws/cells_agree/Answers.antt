use Rattle.search_model.proofs.CellsAgree.{lists_agree}
use Rattle.search_model.proofs.laws.cells_agree.Goals as goal

pub returns : goal.returns
returns c = lists_agree
