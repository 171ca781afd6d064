use Rattle.search_model.proofs.Listed.{candidate_listed}
use Rattle.search_model.proofs.laws.candidates_are_listed.Goals as goal

pub returns : goal.returns
returns c = candidate_listed
