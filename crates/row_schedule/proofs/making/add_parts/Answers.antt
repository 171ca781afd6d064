use Rattle.std.proofs.Common.{ℕ, ◌+◌, slice_index, ap, drop, ◌∙◌, arith, rules}
use Rattle.fdmt_rows.specs.Rows.{wrapping_sum}
use Rattle.row_schedule.proofs.Parts.{puts_between, beside_at}
use Rattle.row_schedule.proofs.making.add_parts.Goals as goal

pub returns : goal.returns
returns c =
    let list = c.args.list.now in
    let at : ℕ = c.args.at in
    let n : ℕ = c.args.count in
    let upper : ℕ = c.args.upper in
    let lower : ℕ = c.args.lower in
    let before = c.split_at_mut-before.result.0.now in
    let after = c.split_at_mut-own.result.1.now in
    let own = c.requires.own in
    let front = c.split_at_mut-before.ensures.front in
    let back = c.split_at_mut-own.ensures.back ∙ ap (drop n) c.split_at_mut-before.ensures.back in
    let above = c.beside-above.ensures in
    let below = c.beside-below.ensures in
    puts_between at n list before c.add_rows.new.out after _ front back own (search rules)
    (λ i lt. c.add_rows.ensures.wrapping i
    ∙ ap (λ x. wrapping_sum x (slice_index c.beside-below.result.now i))
    (beside_at list before after c.beside-above.result.now at n (at + n) upper i front back (omega arith) own
    c.requires.upper_apart above.before above.after lt)
    ∙ ap (λ y. wrapping_sum (slice_index list (upper + i)) y)
    (beside_at list before after c.beside-below.result.now at n (at + n) lower i front back (omega arith) own
    c.requires.lower_apart below.before below.after lt))
