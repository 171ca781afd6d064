use Rattle.subband_plan.specs.Rows.{AreTails}
use Rattle.subband_plan.proofs.rows.keep_tails.Given as goal

abbrev pub invariant-loop-r : goal.invariant-loop-r
invariant-loop-r l = AreTails l.sources l.r l.tails.items
