use Rattle.std.proofs.Common.{◌≡◌, vec_len, length, ap, ◌∙◌, arith, rules, refl}
use Rattle.std.proofs.lemmas.List.{length_push}
use Rattle.box_sums.proofs.Filling.{nothing_filled, one_filled}
use Rattle.box_sums.proofs.keep.fill_up.Goals as goal

pub loop-long-init : goal.loop-long-init
loop-long-init c =
    let is = c.len-long.ensures in
    let len : vec_len c.args.table.now ≡ length c.args.table.now.items = search rules in
    record {
      long = omega (arith, is, len);
      filled = nothing_filled c.args.table.now.items;
      capacity = refl;
    }

pub loop-long-preserved : goal.loop-long-preserved
loop-long-preserved c =
    let so_far = c.loop-long.invariant in
    let items = c.push_reserved.ensures.items in
    let more = ap length items ∙ length_push c.loop-long.table.items 0 in
    let before = so_far.long in
    record {
      long = omega (arith, more, before);
      filled = one_filled c.args.table.now.items c.loop-long.table.items _ items so_far.filled;
      capacity = c.push_reserved.ensures.capacity ∙ so_far.capacity;
    }
