use Rattle.std.proofs.Common.{◌+◌, ◌-◌, slice_index, take, drop, ap, ◌∙◌, arith}
use Rattle.row_schedule.proofs.Parts.{part_at}
use Rattle.row_schedule.proofs.halves.Halves.of.Goals as goal

pub returns-clause-sums : goal.returns-clause-sums
returns-clause-sums c = λ k lt.
    let list = c.args.list.now in
    let upper = part_at c.args.upper (c.args.upper + c.args.count - c.args.upper) list k (omega arith) in
    let lower = part_at c.args.lower (c.args.lower + c.args.count - c.args.lower) list k (omega arith) in
    ap (λ x. x + slice_index (take (c.args.lower + c.args.count - c.args.lower) (drop c.args.lower list)) k) upper
    ∙ ap (λ y. slice_index list (c.args.upper + k) + y) lower
