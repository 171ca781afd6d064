use Rattle.std.proofs.Common.{◌*◌, ◌≤◌, arith}
use Rattle.std.proofs.Math.Nat.{mul-le-mul}
use Rattle.band_level.proofs.finish.is_far.Goals as goal

pub overflow_mul-reach-2 : goal.overflow_mul-reach-2
overflow_mul-reach-2 c =
    let clip = c.square.ensures.most 1000000000 c.requires.clip in
    let deviation = c.square-2.ensures.most 1000000 c.requires.plan.deviation in
    let both : c.square.result * c.square-2.result ≤ 1000000000000000000 * 1000000000000 =
    mul-le-mul clip deviation in
    let all : c.square.result * c.square-2.result * c.args.count ≤ 1000000000000000000 * 1000000000000 * 8192 =
    mul-le-mul both c.requires.count in
    omega arith
