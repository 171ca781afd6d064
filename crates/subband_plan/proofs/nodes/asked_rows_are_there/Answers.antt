use Rattle.subband_plan.proofs.Splits.{halves_have}
use Rattle.subband_plan.proofs.nodes.asked_rows_are_there.Goals as goal

pub returns : goal.returns
returns c = halves_have c.splits_fit.ensures c.splits_step.ensures
