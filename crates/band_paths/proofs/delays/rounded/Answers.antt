use Rattle.std.proofs.Common.{ℕ, ◌≤◌, ◌<◌, ◌*◌, ◌^◌, arith, rules}
use Rattle.std.proofs.lemmas.Nat.{mul-le}
use Rattle.band_paths.proofs.delays.rounded.Goals as goal

-- twice the delay times the part
twice : (d p w : ℕ) → p < w → w ≤ 2 ^ 96 → d ≤ 8192 → 2 * d * p ≤ 16384 * 2 ^ 96
twice d p w h hw hd = omega (arith, mul-le (2 * d) p 16384 (2 ^ 96) (omega arith) (omega arith))

pub overflow_mul-result-2 : goal.overflow_mul-result-2
overflow_mul-result-2 c =
    let t = twice c.from.result c.args.part c.args.whole c.requires.part c.requires.whole (search rules) in
    omega arith

pub overflow_add-result : goal.overflow_add-result
overflow_add-result c =
    let t = twice c.from.result c.args.part c.args.whole c.requires.part c.requires.whole (search rules) in
    omega arith

pub overflow_cast-result : goal.overflow_cast-result
overflow_cast-result c =
    let r = c.splits_fit.ensures.rounded c.args.part c.args.whole c.from.result c.requires.part in
    let e = c.from.ensures in
    omega arith

pub returns-clause-part : goal.returns-clause-part
returns-clause-part c =
    let r = c.splits_fit.ensures.rounded c.args.part c.args.whole c.from.result c.requires.part in
    let e = c.from.ensures in
    omega arith
