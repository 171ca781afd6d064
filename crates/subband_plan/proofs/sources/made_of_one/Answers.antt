use Rattle.std.proofs.Common.{arith}
use Rattle.subband_plan.proofs.Numbers.{small_kept}
use Rattle.subband_plan.proofs.sources.made_of_one.Goals as goal

pub number-requires-clause-row : goal.number-requires-clause-row
number-requires-clause-row c = small_kept _ c.args.d _ (omega arith) (omega arith) c.requires.row

pub number-requires-2-clause-row : goal.number-requires-2-clause-row
number-requires-2-clause-row c = small_kept _ c.args.d _ (omega arith) (omega arith) c.requires.row
