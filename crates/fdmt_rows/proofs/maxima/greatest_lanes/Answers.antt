use Rattle.std.proofs.Common.{ℕ, ◌≡◌, ◌+◌, ◌*◌, subst, arith}
use Rattle.fdmt_rows.specs.Lanes.{AreLaneGreatest}
use Rattle.fdmt_rows.proofs.GreatestValues.{lanes_more}
use Rattle.fdmt_rows.proofs.maxima.greatest_lanes.Goals as goal

pub loop-step-preserved : goal.loop-step-preserved
loop-step-preserved c =
    let next : c.loop-step.step * 16 + 16 ≡ (c.loop-step.step + 1) * 16 = omega arith in
    subst (λ (done : ℕ). AreLaneGreatest c.args.row.now c.max_lanes-lanes.result done) next
    (lanes_more c.args.row.now c.loop-step.lanes _ (c.loop-step.step * 16) c.loop-step.invariant
    c.max_lanes-lanes.ensures.long c.max_lanes-lanes.ensures.greater)
