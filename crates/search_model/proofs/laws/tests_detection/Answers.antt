use Rattle.search_model.proofs.Detection.{detection_test}
use Rattle.search_model.proofs.laws.tests_detection.Goals as goal

pub returns : goal.returns
returns c = detection_test
