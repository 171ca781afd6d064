use Rattle.std.proofs.Common.{◌≡◌, vec_len, length, arith, rules}
use Rattle.row_schedule.proofs.builder.Builder.makes_all.Goals as goal

pub returns : goal.returns
returns c =
    let len : vec_len c.args.rows.now.tails ≡ length c.args.rows.now.tails.items = search rules in
    let is = c.len-r-end.ensures in
    let entries = c.requires in
    let end = c.loop-r-test.false in
    (λ _ r lt some. c.loop-r.invariant r (omega arith) some, λ _. search rules)
