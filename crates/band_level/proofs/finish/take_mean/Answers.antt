use Rattle.std.proofs.Common.{arith}
use Rattle.band_level.specs.Levelled.{marks_cell}
use Rattle.band_level.proofs.Shares.{spread_is_balanced}
use Rattle.band_level.proofs.finish.take_mean.Goals as goal

pub returns-clause-levels : goal.returns-clause-levels
returns-clause-levels c =
    spread_is_balanced c.args.plan (marks_cell c.args.masked.now c.args.polarisations) c.args.levels.now
    c.spread_over.new.levels c.spread_for.result c.count_kept-count.result c.total_kept-total.result
    (omega arith) c.count_kept-count.ensures.count c.total_kept-total.ensures.total c.spread_for.ensures.shares
    c.spread_over.ensures.levels
