use Rattle.std.proofs.Common.{◌≡◌, vec_len, length, arith, rules}
use Rattle.row_schedule.proofs.Marking.{none_marked}
use Rattle.row_schedule.proofs.builder.Builder.open.Goals as goal

pub invariant_of-result : goal.invariant_of-result
invariant_of-result c =
    let few = c.if-len-gt-MOST_SLOTS.false in
    let is = c.len.ensures in
    let again = c.len-2.ensures in
    let len : vec_len c.args.slots ≡ length c.args.slots.items = search rules in
    none_marked c.args.narrow.items c.args.slots.items c.new.result.items _ _ c.len-2.result c.len-3.result
    c.new.ensures.items (omega arith) (omega arith) (search rules) (search rules)
