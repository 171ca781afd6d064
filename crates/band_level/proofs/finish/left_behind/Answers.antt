use Rattle.std.proofs.Common.{sym, arith}
use Rattle.band_level.proofs.Shares.{low_sum, high_sum}
use Rattle.band_level.proofs.finish.left_behind.Goals as goal

pub returns-then-sum-spread-clause-left : goal.returns-then-sum-spread-clause-left
returns-then-sum-spread-clause-left c m is =
    let s = c.args.spread in
    sym (low_sum s.count m s.amount c.args.left s.rest is c.requires.spread.rest (omega arith)).1

pub returns-else-sum-spread-clause-left : goal.returns-else-sum-spread-clause-left
returns-else-sum-spread-clause-left c m is =
    let s = c.args.spread in
    sym (high_sum s.count m s.amount c.args.left s.rest (omega arith) is c.requires.spread.rest (omega arith)).1
