use Rattle.search_model.proofs.Paths.{path_rises}
use Rattle.search_model.proofs.laws.paths_rise.Goals as goal

pub returns : goal.returns
returns c = path_rises
