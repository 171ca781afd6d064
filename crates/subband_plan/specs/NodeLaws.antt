-- Laws of the nodes of a plan; the functions of this crate carry them.
-- Source: Zackay & Ofek, ApJ 835:11, 2017, section 2; the order of the nodes is this project's
-- choice.
use Rattle.std.specs.Prelude.{◌≡◌, ℕ, ◌+◌, ◌-◌, ◌*◌, ◌≤◌, ◌<◌, true, false, Bool, List, length}
use Rattle.dada_model.specs.Edges.{AreEdges}
use Rattle.band_paths.specs.Edges.{channels_of}
use Rattle.search_model.specs.Paths.{middle}
use Rattle.subband_plan.specs.declared.nodes.Node.{Node}
use Rattle.subband_plan.specs.Nodes.{BandPlan, IsPlan, IsBranch, HasRow, split_of, upper_half, lower_half, root, nodes_of, node_at}

-- the number of the lower half of node k; the upper half is node k + 1
abbrev pub lower_number : Node → ℕ → ℕ
lower_number n k = k + 2 * (middle n.lo n.hi - n.lo)

-- node k and all below it: its halves have the numbers expected, and all below it comes before node
-- k + 2 * its channels - 1
pub record IsLaid (edges : List ℕ) (nodes : List Node) (k : ℕ) (n : Node) : Type 0 where
  pub branch : IsBranch edges n
  pub below : k + 2 * (n.hi - n.lo) ≤ length nodes + 1
  pub upper : n.lo + 2 ≤ n.hi → node_at nodes (k + 1) ≡ upper_half edges n
  pub lower : n.lo + 2 ≤ n.hi → node_at nodes (lower_number n k) ≡ lower_half edges n

pub record AreLaid (edges : List ℕ) (nodes : List Node) : Type 0 where
  pub band : AreEdges (channels_of edges) edges
  pub count : length nodes + 1 ≡ 2 * channels_of edges
  pub each : (k : ℕ) → k < length nodes → IsLaid edges nodes k (node_at nodes k)

-- a plan over n channels has 2 n - 1 nodes, the whole band first, and the halves of each are among
-- them
abbrev pub PlansAreLaid : Type 0
PlansAreLaid =
    (p : BandPlan) → IsPlan p → (AreLaid p.edges (nodes_of p)) × (node_at (nodes_of p) 0 ≡ root p)

-- the rows that a node's row is made of are rows of its halves
pub record HalvesHave (edges : List ℕ) (n : Node) (d : ℕ) : Type 0 where
  pub part : split_of edges n d ≤ d
  pub upper : HasRow (upper_half edges n) (split_of edges n d)
  pub lower : HasRow (lower_half edges n) (d - split_of edges n d)

abbrev pub AskedRowsAreThere : Type 0
AskedRowsAreThere =
    (edges : List ℕ) (n : Node) (d : ℕ) → AreEdges (channels_of edges) edges → IsBranch edges n →
    n.lo + 2 ≤ n.hi → HasRow n d → HalvesHave edges n d

-- whether the upper half gets one spectrum more of the delay d than of the delay before, or as much
pub record Grows (edges : List ℕ) (n : Node) (d : ℕ) (more : Bool) : Type 0 where
  pub grows : more ≡ true → split_of edges n d ≡ split_of edges n (d - 1) + 1
  pub stays : more ≡ false → split_of edges n d ≡ split_of edges n (d - 1)

-- the halves have channels of the band, and rows in order
pub record AreBranches (edges : List ℕ) (upper lower : Node) : Type 0 where
  pub upper_half : IsBranch edges upper
  pub lower_half : IsBranch edges lower
