use Rattle.std.proofs.Common.{arith}
use Rattle.psr_make.proofs.Adding.{run_low, run_more}
use Rattle.psr_make.proofs.raised.raise_run.Goals as goal

pub raise_cell-requires-clause-low : goal.raise_cell-requires-clause-low
raise_cell-requires-clause-low c =
    run_low c.args.spec.now c.args.bytes.now c.loop-t.bytes c.args.channel c.args.start c.args.end c.loop-t.t
    c.loop-t.auto.bytes c.requires.channel (omega arith) (omega arith) c.requires.within c.requires.low
    c.loop-t.invariant

pub loop-t-preserved : goal.loop-t-preserved
loop-t-preserved c =
    run_more c.args.spec.now c.args.bytes.now c.loop-t.bytes c.raise_cell.new.bytes c.args.channel c.args.start
    c.loop-t.t c.loop-t.auto.bytes (omega arith) c.requires.channel c.loop-t.invariant c.raise_cell.ensures
