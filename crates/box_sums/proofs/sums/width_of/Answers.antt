use Rattle.std.proofs.Common.{◌^◌, ◌≤◌, arith}
use Rattle.std.proofs.Math.Pow.{pow_mono}
use Rattle.box_sums.proofs.sums.width_of.Goals as goal

pub returns-clause-bound : goal.returns-clause-bound
returns-clause-bound c =
    let small : 2 ^ c.args.level ≤ 2 ^ 5 = pow_mono c.requires in
    omega arith
