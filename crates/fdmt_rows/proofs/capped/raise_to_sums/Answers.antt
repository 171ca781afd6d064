use Rattle.std.proofs.Common.{◌*◌, arith}
use Rattle.fdmt_rows.proofs.Raising.{raised_further, raised_to_none}
use Rattle.fdmt_rows.proofs.capped.raise_to_sums.Goals as goal

pub loop-step-init : goal.loop-step-init
loop-step-init c = raised_to_none c.args.most _ c.requires.long (λ bound k lt. absurd (omega arith))

pub loop-step-preserved : goal.loop-step-preserved
loop-step-preserved c =
    raised_further c.args.most c.loop-step.raised _ _ c.args.first.now c.args.second.now c.args.turn
    (c.loop-step.step * 16) _ (omega arith) c.sums_at.ensures.long (omega arith) c.sums_at.ensures.sums c.loop-step.invariant
    c.greater-raised.ensures
