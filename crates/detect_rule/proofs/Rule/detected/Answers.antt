use Rattle.std.proofs.Common.{ℕ, ◌*◌, ◌<◌, ◌≤◌, ◌^◌, arith}
use Rattle.std.proofs.Math.Nat.{mul-le-mul}
use Rattle.detect_rule.proofs.Rule.detected.Goals as goal

product_fits : (snr sd cells : ℕ) → snr ≤ 100000 → sd ≤ 200000000 → cells ≤ 2 ^ 26 →
    snr * snr * (sd * sd) * cells < 2 ^ 128
product_fits snr sd cells hr hs hc =
    let squares = mul-le-mul (mul-le-mul hr hr) (mul-le-mul hs hs) in
    let all = mul-le-mul squares hc in
    omega arith

pub overflow_mul-result-4 : goal.overflow_mul-result-4
overflow_mul-result-4 c =
    let snr = c.from-snr.ensures in
    let sd = c.from-sd.ensures in
    let cells = c.from-2.ensures in
    let low = c.self.invariant.snr_range in
    let deviation = c.self.invariant.sd_range in
    let small = product_fits c.from-snr.result c.from-sd.result c.from-2.result (omega arith) (omega arith)
    (omega arith) in
    omega (arith, small)
