use Rattle.std.proofs.Common.{arith}
use Rattle.band_level.proofs.Shares.{low_sum, high_sum}
use Rattle.band_level.proofs.finish.share_of.Goals as goal

pub returns-then-left-spread-clause-share : goal.returns-then-left-spread-clause-share
returns-then-left-spread-clause-share c m is =
    let s = c.args.spread in
    let h = (low_sum s.count m s.amount c.args.left s.rest is c.requires.spread.rest (omega arith)).0 in
    let w = c.requires.spread.whole in
    omega arith

pub returns-else-left-spread-clause-share : goal.returns-else-left-spread-clause-share
returns-else-left-spread-clause-share c m is =
    let s = c.args.spread in
    let h = (high_sum s.count m s.amount c.args.left s.rest (omega arith) is c.requires.spread.rest (omega arith)).0 in
    let w = c.requires.spread.whole in
    omega arith
