use Rattle.std.proofs.Common.{slice_index}
use Rattle.subband_plan.specs.Making.{AreLabels}
use Rattle.subband_plan.proofs.rows.label_rows.Given as goal

abbrev pub invariant-loop-k : goal.invariant-loop-k
invariant-loop-k l = AreLabels l.nodes l.starts (slice_index l.starts l.k) l.labels.items
