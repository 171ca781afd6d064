use Rattle.fdmt_rows.proofs.Raising.{sums_up_to, least_of_sums}
use Rattle.fdmt_rows.proofs.capped.greatest_whole_sum.Goals as goal

pub returns-clause-enough : goal.returns-clause-enough
returns-clause-enough c =
    sums_up_to _ _ c.args.a.now c.args.b.now _ _ c.raise_to_sums-lanes.ensures c.greatest_lane.ensures.enough

pub returns-clause-least : goal.returns-clause-least
returns-clause-least c = λ bound.
    least_of_sums _ c.args.a.now c.args.b.now _ _ bound c.raise_to_sums-lanes.ensures c.greatest_lane.ensures.least
