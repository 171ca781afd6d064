use Rattle.transfer_text.proofs.Few.{are_counted}
use Rattle.transfer_text.proofs.laws.totals_are_counted.Goals as goal

pub returns : goal.returns
returns c = are_counted
