use Rattle.std.proofs.Common.{rules, ℕ, ◌≡◌, ◌+◌, ◌*◌, subst, arith}
use Rattle.fdmt_rows.specs.Lanes.{AreLaneGreatest}
use Rattle.fdmt_rows.specs.Rows.{sums_of}
use Rattle.fdmt_rows.proofs.AddedMaxima.{sums_more}
use Rattle.fdmt_rows.proofs.adding_maxima.add_lanes_greatest.Goals as goal

pub loop-step-preserved : goal.loop-step-preserved
loop-step-preserved c =
    let next : c.loop-step.step * 16 + 16 ≡ (c.loop-step.step + 1) * 16 = omega arith in
    record {
      written = search rules;
      lanes = subst
          (λ (done : ℕ). AreLaneGreatest (sums_of c.args.a.now c.args.b.now) c.add_and_compare-lanes.result done) next
          (sums_more c.args.a.now c.args.b.now c.loop-step.lanes _ (c.loop-step.step * 16) (omega arith) (omega arith)
          c.loop-step.invariant.lanes c.add_and_compare-lanes.ensures.long c.add_and_compare-lanes.ensures.greater);
    }
