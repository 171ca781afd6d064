use Rattle.std.proofs.Common.{arith}
use Rattle.psr_make.proofs.Passing.{IsNextPulse, next_pulse, no_run, is_run}
use Rattle.psr_make.proofs.train.next_run.Goals as goal

pub returns-then-spec-start : goal.returns-then-spec-start
returns-then-spec-start c =
    let next : IsNextPulse c.args.spec.now c.args.leaves c.args.from c.div_ceil.result =
    next_pulse c.args.spec.now c.args.leaves c.args.from c.div_ceil.result c.requires.spec.some_period (cc) in
    no_run c.args.spec.now c.args.enters c.args.leaves c.args.from c.args.to c.div_ceil.result next c.requires.order
    (omega arith)

pub returns : goal.returns
returns c =
    let next : IsNextPulse c.args.spec.now c.args.leaves c.args.from c.div_ceil.result =
    next_pulse c.args.spec.now c.args.leaves c.args.from c.div_ceil.result c.requires.spec.some_period (cc) in
    is_run c.args.spec.now c.args.enters c.args.leaves c.args.from c.args.to c.div_ceil.result c.min.result
    c.min-2.result c.requires.spec.some_period next c.requires.order c.requires.passage c.if-spec-start.false
    (cc) c.min-2.ensures
