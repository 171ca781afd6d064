use Rattle.fdmt_carry.proofs.Narrow.{AreLowRows}
use Rattle.fdmt_carry.proofs.passing.narrow_rows.Given as goal

abbrev pub invariant-loop-r : goal.invariant-loop-r
invariant-loop-r l = AreLowRows l.plan l.rows l.limit l.r l.narrow.items
