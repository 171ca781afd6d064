use Rattle.search_model.proofs.Rising.{list_rises}
use Rattle.search_model.proofs.laws.candidates_rise.Goals as goal

pub returns : goal.returns
returns c = list_rises
