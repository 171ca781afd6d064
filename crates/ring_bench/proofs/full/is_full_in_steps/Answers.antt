use Rattle.std.proofs.Common.{◌*◌, arith}
use Rattle.ring_bench.proofs.Lanes.{full_further}
use Rattle.ring_bench.proofs.full.is_full_in_steps.Goals as goal

pub loop-step-preserved : goal.loop-step-preserved
loop-step-preserved c = record {
  long = c.greater-others.ensures.long;
  full = λ zero. full_further c.args.block.now c.args.byte (c.loop-step.step * 32) _ c.others_at.result (omega arith)
      (c.loop-step.invariant.full (c.greater-others.ensures.first zero)) c.others_at.ensures.same
      (c.greater-others.ensures.second zero);
}
