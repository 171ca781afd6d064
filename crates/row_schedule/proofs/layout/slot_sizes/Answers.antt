use Rattle.std.proofs.Common.{◌≤◌, length, slice_index, arith, sym, ap, subst, ◌∙◌}
use Rattle.std.proofs.lemmas.List.{length-replicate}
use Rattle.row_schedule.proofs.Laying.{filled_short, longer}
use Rattle.row_schedule.proofs.layout.slot_sizes.Goals as goal

pub loop-order-init : goal.loop-order-init
loop-order-init c =
    let is = c.in_ok-sizes.ensures in
    let short = c.requires.short in
    let most = c.rounded-room.ensures.most in
    record {
      entries = ap length is ∙ length-replicate c.args.slots c.rounded-room.result;
      short = λ s. subst (λ xs. slice_index xs s ≤ 131072) (sym is)
          (filled_short c.args.slots c.rounded-room.result 131072 s (omega arith));
      enough = λ j lt. absurd (omega arith);
    }

pub loop-order-preserved : goal.loop-order-preserved
loop-order-preserved c =
    let so_far = c.loop-order.invariant in
    let value = c.tail.ensures.value in
    let short = c.tail.ensures.short in
    let most = c.rounded-room.ensures.most in
    let least = c.rounded-room.ensures.least in
    let small = c.requires.short in
    record {
      entries = c.raise.ensures.entries ∙ so_far.entries;
      short = c.raise.ensures.bound 131072 (omega arith) so_far.short;
      enough = longer c.args.rows.now c.args.orders.now c.args.most _ _ c.loop-order.order-index so_far.enough
          c.raise.ensures.grows (let raised = c.raise.ensures.raised in omega arith);
    }
