-- The orders in which the rows of a plan are made.
-- Source: Zackay & Ofek, ApJ 835:11, 2017, section 2 (the rows of a node are made of rows of its
-- halves); the orders are this project's choice.
use Rattle.std.specs.Prelude.{◌≡◌, ◌≢◌, ℕ, ◌+◌, ◌-◌, ◌*◌, ◌^◌, ◌≤◌, ◌<◌, true, false, Bool, List, Some, length, slice_index, slice_index_or}
use Rattle.row_model.specs.Sums.{is_narrow}
use Rattle.row_schedule.specs.declared.builder.Order.{Order}
use Rattle.row_schedule.specs.Orders.{AreInOrder, holds, is_made, order_at}
use Rattle.subband_plan.specs.declared.rows.PlanRows.{PlanRows}
use Rattle.subband_plan.specs.Nodes.{BandPlan, nodes_of}
use Rattle.subband_plan.specs.Rows.{all_rows, node_of, row_at}
use Rattle.subband_plan.specs.Values.{cells_of}

-- the number of the first row of node k
abbrev pub start_of : PlanRows → ℕ → ℕ
start_of rows k = slice_index rows.starts.items k

-- the number of the row of delay d of the whole band
abbrev pub band_row : BandPlan → PlanRows → ℕ → ℕ
band_row p rows d = row_at (nodes_of p) rows.starts.items 0 d

-- how many rows come before row r of node k in the plain order, from the last node to the first
unfoldable pub place_of : PlanRows → ℕ → ℕ → ℕ
place_of rows k r = all_rows rows - start_of rows (k + 1) + (r - start_of rows k)

-- a row is made in the slot of its own number
abbrev pub in_own_slot : ℕ → Order
in_own_slot r = record { row = r; slot = r }

-- no row, and no slot, has 16 bits
abbrev pub AreWide : List Bool → Type 0
AreWide narrow = (r : ℕ) → slice_index_or narrow r false ≡ false

-- The plain order: the nodes from the last to the first, the rows of each by rising delay, each in
-- a slot of its own.
pub record ArePlain (p : BandPlan) (rows : PlanRows) (orders : List Order) : Type 0 where
  pub entries : length orders ≡ all_rows rows
  pub each : (k r : ℕ) → k < length (nodes_of p) → start_of rows k ≤ r → r < start_of rows (k + 1) →
      order_at orders (place_of rows k r) ≡ in_own_slot r
  pub own : (r : ℕ) → r < all_rows rows → holds orders (length orders) r ≡ Some r

-- in this order each row can be made after those before it, and all rows are made
pub record IsPlainlyMade (rows : PlanRows) (orders : List Order) : Type 0 where
  pub in_order : (narrow slots : List Bool) → AreWide narrow → AreWide slots →
      all_rows rows ≤ length slots → AreInOrder rows.rows narrow slots orders
  pub all : (r : ℕ) → r < all_rows rows → is_made orders (length orders) r ≡ true

-- the last order before stop i + 1 makes row r
pub record IsStop (orders : List Order) (stops : List ℕ) (i r : ℕ) : Type 0 where
  pub rise : slice_index stops i < slice_index stops (i + 1)
  pub within : slice_index stops (i + 1) ≤ length orders
  pub shown : (order_at orders (slice_index stops (i + 1) - 1)).row ≡ r

-- Stop 0 is before the first order, and each further stop is after the order that makes the next
-- row of the whole band, by rising delay. The row of the last delay is made by the last order of
-- all.
pub record AreStops (p : BandPlan) (rows : PlanRows) (orders : List Order) (stops : List ℕ) :
    Type 0 where
  pub entries : length stops ≡ p.last - p.first + 2
  pub first : slice_index stops 0 ≡ 0
  pub last : slice_index stops (p.last - p.first + 1) ≡ length orders
  pub each : (i : ℕ) → i ≤ p.last - p.first →
      IsStop orders stops i (band_row p rows (p.first + i))

-- if no sample is above m, every sum of row r fits into 16 bits
abbrev pub IsLow : BandPlan → PlanRows → ℕ → ℕ → Type 0
IsLow p rows r m = m * cells_of p rows r < 2 ^ 16

-- if no sample is above m, every sum of all narrow rows fits into 16 bits
abbrev pub AreLow : BandPlan → PlanRows → List Bool → ℕ → Type 0
AreLow p rows narrow m = (r : ℕ) → is_narrow narrow r ≡ true → IsLow p rows r m

-- no narrow row is a row of the whole band
abbrev pub AreParts : PlanRows → List Bool → Type 0
AreParts rows narrow = (r : ℕ) → is_narrow narrow r ≡ true → node_of rows r ≢ 0
