use Rattle.search_model.proofs.Paths.{path_is, path_is_only}
use Rattle.search_model.proofs.laws.has_one_path.Goals as goal

pub returns : goal.returns
returns c = λ edges n d band. (path_is edges n d band, λ e is. path_is_only edges n d e band is)
