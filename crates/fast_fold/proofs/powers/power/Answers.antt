use Rattle.std.proofs.Common.{◌^◌, ◌≤◌, arith}
use Rattle.std.proofs.Math.Pow.{pow_mono}
use Rattle.fast_fold.proofs.powers.power.Goals as goal

pub returns-clause-bound : goal.returns-clause-bound
returns-clause-bound c =
    let small : 2 ^ c.args.e ≤ 2 ^ 12 = pow_mono c.requires in
    omega arith

pub returns-clause-rises : goal.returns-clause-rises
returns-clause-rises c = λ most le.
    let small : 2 ^ c.args.e ≤ 2 ^ most = pow_mono le in
    omega arith
