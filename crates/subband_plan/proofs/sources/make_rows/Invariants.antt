use Rattle.std.proofs.Common.{◌≡◌, length}
use Rattle.subband_plan.specs.Making.{AreSources}
use Rattle.subband_plan.proofs.sources.make_rows.Given as goal

abbrev pub invariant-loop-r : goal.invariant-loop-r
invariant-loop-r l =
    (length l.sources.items ≡ l.r) × AreSources l.edges l.nodes l.starts l.labels l.delays l.sources.items
