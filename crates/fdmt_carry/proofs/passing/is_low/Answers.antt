use Rattle.std.proofs.Common.{◌^◌, ◌≤◌, arith}
use Rattle.std.proofs.Math.Nat.{mul-le-mul}
use Rattle.fdmt_carry.proofs.passing.is_low.Goals as goal

pub overflow_mul-result : goal.overflow_mul-result
overflow_mul-result c =
    let sample : c.from.result ≤ 2 ^ 32 = omega (arith, c.from.ensures) in
    let cells : c.from-cells.result ≤ 2 ^ 14 = omega (arith, c.from-cells.ensures) in
    let most = mul-le-mul sample cells in
    omega (arith, most)
