use Rattle.std.proofs.Common.{length, ap, ◌∙◌, arith}
use Rattle.std.proofs.lemmas.List.{length_push}
use Rattle.row_schedule.proofs.Fitting.{steps_more}
use Rattle.row_schedule.proofs.builder.Builder.steps.Goals as goal

pub loop-j-preserved : goal.loop-j-preserved
loop-j-preserved c =
    let so_far = c.loop-j.invariant in
    let entries = so_far.entries in
    let items = c.in_ok-push.ensures.items in
    let long = ap length items ∙ length_push c.loop-j.steps.items c.step.result in
    record {
      entries = omega arith;
      right = steps_more c.args.rows.now c.args.self.now.narrow c.args.self.now.orders c.args.places.now c.args.chunk
          c.loop-j.j _ _ c.step.result so_far.right entries items c.step.ensures;
    }
