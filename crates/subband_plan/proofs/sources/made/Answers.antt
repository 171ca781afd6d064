use Rattle.std.proofs.Common.{arith}
use Rattle.subband_plan.specs.Nodes.{node_at}
use Rattle.subband_plan.proofs.Numbers.{has_row}
use Rattle.subband_plan.proofs.sources.made.Goals as goal

pub split-upper-requires-clause-row : goal.split-upper-requires-clause-row
split-upper-requires-clause-row c =
    has_row (node_at c.args.nodes.now c.args.k) c.args.d (omega arith) c.requires.row

pub number-requires-clause-row : goal.number-requires-clause-row
number-requires-clause-row c =
    let are = c.rows_are_numbered.ensures c.args.edges.now c.args.nodes.now c.args.starts.now c.requires.laid
    c.requires.starts in
    rw c.split-upper.ensures.value
    (are.upper c.args.k c.args.d c.requires.node (omega arith) c.requires.row)

pub number-requires-2-clause-row : goal.number-requires-2-clause-row
number-requires-2-clause-row c =
    let are = c.rows_are_numbered.ensures c.args.edges.now c.args.nodes.now c.args.starts.now c.requires.laid
    c.requires.starts in
    rw (c.lower_number.ensures, c.split-upper.ensures.value)
    (are.lower c.args.k c.args.d c.requires.node (omega arith) c.requires.row)
