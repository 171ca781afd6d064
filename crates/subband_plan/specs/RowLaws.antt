-- Laws of the numbers of a plan's rows, and of their order; the functions of this crate carry them.
-- Source: Zackay & Ofek, ApJ 835:11, 2017, section 2; the order of the rows is this project's
-- choice.
use Rattle.std.specs.Prelude.{◌≡◌, ℕ, ◌+◌, ◌-◌, ◌*◌, ◌≤◌, ◌<◌, List, Some, length, slice_get, slice_index}
use Rattle.dada_model.specs.Bounds.{most_delay}
use Rattle.row_model.specs.declared.Merge.{Merge}
use Rattle.row_model.specs.declared.Source.TheVariants.{Sum}
use Rattle.subband_plan.specs.declared.nodes.Node.{Node}
use Rattle.subband_plan.specs.declared.rows.PlanRows.{PlanRows}
use Rattle.subband_plan.specs.Nodes.{BandPlan, IsPlan, HasRow, HasKept, least_row, split_of, node_at}
use Rattle.subband_plan.specs.NodeLaws.{AreLaid, lower_number}
use Rattle.subband_plan.specs.Rows.{ArePlanRows, AreStarts, row_at, node_of}

-- the rows of a node are numbered from its start up to the next node's, and the halves have the
-- rows that it asks for
pub record AreNumbered (edges : List ℕ) (nodes : List Node) (starts : List ℕ) : Type 0 where
  pub rise : (j k : ℕ) → j ≤ k → k ≤ length nodes → slice_index starts j ≤ slice_index starts k
  pub few : (k : ℕ) → k ≤ length nodes → slice_index starts k ≤ (most_delay + 1) * k
  pub above : (k d : ℕ) → k < length nodes → HasKept (node_at nodes k) d →
      row_at nodes starts k d < slice_index starts (k + 1)
  pub kept : (k d : ℕ) → HasRow (node_at nodes k) d → HasKept (node_at nodes k) d
  pub upper : (k d : ℕ) → k < length nodes → (node_at nodes k).lo + 3 ≤ (node_at nodes k).hi →
      HasKept (node_at nodes k) d →
      HasKept (node_at nodes (k + 1)) (split_of edges (node_at nodes k) d)
  pub lower : (k d : ℕ) → k < length nodes → (node_at nodes k).lo + 3 ≤ (node_at nodes k).hi →
      HasKept (node_at nodes k) d → HasKept (node_at nodes (lower_number (node_at nodes k) k))
      (d - split_of edges (node_at nodes k) d)
  pub of_more : (k : ℕ) → (node_at nodes k).lo + 3 ≤ (node_at nodes k).hi →
      least_row (node_at nodes k) ≡ (node_at nodes k).first_row
  pub of_two : (k : ℕ) → (node_at nodes k).hi ≤ (node_at nodes k).lo + 2 →
      least_row (node_at nodes k) ≡ 0

abbrev pub RowsAreNumbered : Type 0
RowsAreNumbered = (edges : List ℕ) (nodes : List Node) (starts : List ℕ) → AreLaid edges nodes →
    AreStarts nodes starts → AreNumbered edges nodes starts

-- row q is of a node with a greater number than that of row r, or of the same node and before row r
pub record IsBelow (rows : PlanRows) (r q : ℕ) : Type 0 where
  pub node : node_of rows r ≤ node_of rows q
  pub before : node_of rows q ≡ node_of rows r → q < r

-- both rows that row r is made of are of nodes with greater numbers, or before row r in its own
-- node
pub record AreBelow (rows : PlanRows) (r : ℕ) (m : Merge) : Type 0 where
  pub upper : IsBelow rows r m.upper
  pub lower : IsBelow rows r m.lower

-- Rows that are made node by node from the last node to the first, and those of a node by their
-- delays, come after those that they are made of.
abbrev pub RowsComeAfter : Type 0
RowsComeAfter = (p : BandPlan) (rows : PlanRows) (r : ℕ) (m : Merge) → IsPlan p →
    ArePlanRows p rows → slice_get rows.rows.sources.items r ≡ Some (Sum m) → AreBelow rows r m
