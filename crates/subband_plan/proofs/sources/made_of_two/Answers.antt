use Rattle.std.proofs.Common.{arith}
use Rattle.subband_plan.proofs.Numbers.{halves_kept, small_kept}
use Rattle.subband_plan.proofs.sources.made_of_two.Goals as goal

pub number-upper-requires-clause-row : goal.number-upper-requires-clause-row
number-upper-requires-clause-row c =
    (halves_kept c.args.edges.now c.args.nodes.now c.args.k c.requires.laid c.requires.node c.requires.two).0

pub number-lower-requires-clause-row : goal.number-lower-requires-clause-row
number-lower-requires-clause-row c =
    rw c.lower_number.ensures
    (halves_kept c.args.edges.now c.args.nodes.now c.args.k c.requires.laid c.requires.node c.requires.two).1

pub number-before-requires-clause-row : goal.number-before-requires-clause-row
number-before-requires-clause-row c = small_kept _ c.args.d _ (omega arith) (omega arith) c.requires.row
