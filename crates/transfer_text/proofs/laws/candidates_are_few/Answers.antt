use Rattle.transfer_text.proofs.Few.{are_few}
use Rattle.transfer_text.proofs.laws.candidates_are_few.Goals as goal

pub returns : goal.returns
returns c = are_few
