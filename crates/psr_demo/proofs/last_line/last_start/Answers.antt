use Rattle.std.proofs.Common.{rules, IsTrue}
use Rattle.psr_demo.proofs.LastLine.{last_from}
use Rattle.psr_demo.proofs.last_line.last_start.Goals as goal

pub returns-clause-last : goal.returns-clause-last
returns-clause-last c =
    let begins : IsTrue c.begins_line.result = search rules in
    let loop = c.loop-start.invariant in
    last_from c.args.text.now c.loop-start.start loop.within (c.begins_line.ensures.0 begins) loop.some loop.bare
