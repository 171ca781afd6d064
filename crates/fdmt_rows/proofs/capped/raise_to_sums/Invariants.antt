use Rattle.std.proofs.Common.{◌*◌}
use Rattle.fdmt_rows.specs.Capped.{AreRaised, SumsUpTo}
use Rattle.fdmt_rows.proofs.capped.raise_to_sums.Given as goal

abbrev pub invariant-loop-step : goal.invariant-loop-step
invariant-loop-step l = AreRaised l.fn.most l.raised (SumsUpTo l.first l.second l.turn (l.step * 16))
