use Rattle.std.proofs.Common.{arith}
use Rattle.subband_plan.proofs.Numbers.{numbers_fit}
use Rattle.subband_plan.proofs.sources.number.Goals as goal

pub overflow_cast-result-2 : goal.overflow_cast-result-2
overflow_cast-result-2 c =
    let are = c.rows_are_numbered.ensures c.args.edges.now c.args.nodes.now c.args.starts.now c.requires.laid
    c.requires.starts in
    let fit = numbers_fit c.args.edges.now c.args.nodes.now c.args.starts.now c.requires.laid are c.args.k c.args.d
    c.requires.node c.requires.row in
    let least = c.least_row.ensures in
    omega (arith, fit.0, fit.1)

pub returns-clause-within : goal.returns-clause-within
returns-clause-within c =
    let are = c.rows_are_numbered.ensures c.args.edges.now c.args.nodes.now c.args.starts.now c.requires.laid
    c.requires.starts in
    let fit = numbers_fit c.args.edges.now c.args.nodes.now c.args.starts.now c.requires.laid are c.args.k c.args.d
    c.requires.node c.requires.row in
    let least = c.least_row.ensures in
    omega (arith, fit.0)
