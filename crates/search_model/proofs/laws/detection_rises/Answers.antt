use Rattle.search_model.proofs.Detection.{detection_more}
use Rattle.search_model.proofs.laws.detection_rises.Goals as goal

pub returns : goal.returns
returns c = detection_more
