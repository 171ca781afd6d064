use Rattle.std.proofs.Common.{◌^◌, ◌≤◌, arith}
use Rattle.std.proofs.Math.Pow.{pow_mono}
use Rattle.fold_search.proofs.judging.fold_row_count.Goals as goal

pub returns-clause-bound : goal.returns-clause-bound
returns-clause-bound c =
    let small : 2 ^ c.args.halvings ≤ 2 ^ 12 = pow_mono c.requires in
    omega arith
