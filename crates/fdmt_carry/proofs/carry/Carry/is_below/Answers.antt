use Rattle.std.proofs.Common.{arith}
use Rattle.std.proofs.lemmas.Bool.{ltb-true}
use Rattle.fdmt_carry.proofs.carry.Carry.is_below.Goals as goal

pub returns-in-Some-clause-below : goal.returns-in-Some-clause-below
returns-in-Some-clause-below c = λ yes f k stands lt.
    let below = ltb-true c.bound.result c.args.least yes in
    let least = c.ranges.least.fits in
    let sum = c.in-Some.ensures.sums f k stands lt in
    let most = c.bound.ensures c.args.self.now.last k c.in-Some.ensures.long lt (omega (arith, below, least)) in
    omega (arith, below, most, sum)
