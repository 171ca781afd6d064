use Rattle.subband_plan.proofs.RowSums.{begins_empty}
use Rattle.subband_plan.proofs.laws.rows_begin_empty.Goals as goal

pub returns : goal.returns
returns c = λ p rows f is are.
    begins_empty c.nothing_before.ensures p rows f (c.plans_are_laid.ensures p is).0 are
