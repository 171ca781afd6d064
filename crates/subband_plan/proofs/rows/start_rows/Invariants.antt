use Rattle.std.proofs.Common.{◌≡◌, slice_index}
use Rattle.subband_plan.specs.Nodes.{kept_count, node_at}
use Rattle.subband_plan.specs.Rows.{ArePlaces}
use Rattle.subband_plan.proofs.rows.start_rows.Given as goal

abbrev pub invariant-loop-node : goal.invariant-loop-node
invariant-loop-node l =
    ArePlaces (λ k. kept_count (node_at l.nodes k)) l.node-index l.starts.items
    × (l.start ≡ slice_index l.starts.items l.node-index)
