-- The plain order, as far as it was written.
-- Source: this project's choice.
use Rattle.std.specs.Prelude.{◌≡◌, ℕ, ◌+◌, ◌≤◌, ◌<◌, true, Bool, List, Some, length}
use Rattle.row_schedule.specs.declared.builder.Order.{Order}
use Rattle.row_schedule.specs.Orders.{AreInOrder, holds, is_made, order_at}
use Rattle.subband_plan.specs.declared.rows.PlanRows.{PlanRows}
use Rattle.subband_plan.specs.Nodes.{BandPlan, nodes_of}
use Rattle.subband_plan.specs.Rows.{all_rows, node_of}
use Rattle.fdmt_carry.specs.Orders.{AreWide, start_of, place_of, in_own_slot}

-- the order that makes row r, one of node k, is at its place
pub record IsPlaced (rows : PlanRows) (orders : List Order) (k r : ℕ) : Type 0 where
  pub within : place_of rows k r < length orders
  pub order : order_at orders (place_of rows k r) ≡ in_own_slot r

-- orders make some rows and no others, each in its own slot, at its place, and after those that it
-- is made of
pub record AreMadePlainly (p : BandPlan) (rows : PlanRows) (done : ℕ → Type 0)
    (orders : List Order) : Type 0 where
  pub made : (r : ℕ) → done r → is_made orders (length orders) r ≡ true
  pub only : (r : ℕ) → is_made orders (length orders) r ≡ true → done r
  pub own : (r : ℕ) → done r → holds orders (length orders) r ≡ Some r
  pub each : (k r : ℕ) → k < length (nodes_of p) → start_of rows k ≤ r → r < start_of rows (k + 1) →
      done r → IsPlaced rows orders k r
  pub in_order : (narrow slots : List Bool) → AreWide narrow → AreWide slots →
      all_rows rows ≤ length slots → AreInOrder rows.rows narrow slots orders

-- row r is one of node k, or of a node after it
abbrev pub IsFrom : PlanRows → ℕ → ℕ → Type 0
IsFrom rows k r = (r < all_rows rows) × (k ≤ node_of rows r)

-- the rows of node k and of all nodes after it are made
pub record NodesAreMade (p : BandPlan) (rows : PlanRows) (k : ℕ) (orders : List Order) :
    Type 0 where
  pub entries : length orders + start_of rows k ≡ all_rows rows
  pub rows_are : AreMadePlainly p rows (IsFrom rows k) orders
