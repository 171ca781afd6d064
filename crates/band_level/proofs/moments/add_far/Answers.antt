use Rattle.std.proofs.Common.{arith}
use Rattle.band_level.proofs.Columns.{adds_kept, adds_none, small_more, small_on}
use Rattle.band_level.proofs.moments.add_far.Goals as goal

pub returns-else-any_far-clause-adds : goal.returns-else-any_far-clause-adds
returns-else-any_far-clause-adds c =
    adds_none c.args.lows.now c.args.highs.now c.args.row.now _ _ _ (c.any_far.ensures c.if-any_far.false)

pub returns-else-any_far-clause-small : goal.returns-else-any_far-clause-small
returns-else-any_far-clause-small c = λ n small. small_on n _ _ _ small

pub returns-then-any_far-clause-adds : goal.returns-then-any_far-clause-adds
returns-then-any_far-clause-adds c =
    adds_kept c.args.lows.now c.args.highs.now c.args.row.now c.keep_far.new.row _ _ _ _ _ _ (omega arith)
    c.keep_far.ensures.keeps c.keep_far.ensures.counts c.add_totals.ensures c.add_squares.ensures

pub returns-then-any_far-clause-small : goal.returns-then-any_far-clause-small
returns-then-any_far-clause-small c = λ n small.
    small_more n c.args.lows.now c.args.highs.now c.args.row.now _ _ _ _ _ _ small
    (adds_kept c.args.lows.now c.args.highs.now c.args.row.now c.keep_far.new.row _ _ _ _ _ _ (omega arith)
    c.keep_far.ensures.keeps c.keep_far.ensures.counts c.add_totals.ensures c.add_squares.ensures)
    c.requires.values (omega arith) (omega arith) (omega arith)
