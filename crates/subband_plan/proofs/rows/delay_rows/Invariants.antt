use Rattle.std.proofs.Common.{◌≡◌, length}
use Rattle.subband_plan.specs.Making.{AreLabelled}
use Rattle.subband_plan.proofs.rows.delay_rows.Given as goal

abbrev pub invariant-loop-r : goal.invariant-loop-r
invariant-loop-r l = (length l.delays.items ≡ l.r) × AreLabelled l.nodes l.starts l.labels l.delays.items
