-- What is noted of the orders so far: which row each slot has, and in which slot each row was made.
-- Source: this project's choice.
use Rattle.std.specs.Prelude.{◌≡◌, ℕ, ◌^◌, ◌≤◌, ◌<◌, false, List, Option, None, Some, zero, suc, nat_eq, length, slice_index_or, if◌then◌else◌}
use Rattle.row_model.specs.declared.Merge.{Merge}
use Rattle.row_model.specs.Sums.{is_narrow}
use Rattle.row_schedule.specs.declared.builder.Order.{Order}
use Rattle.row_schedule.specs.Orders.{AreAsNarrow, StandsBeside, order_at, holds, is_made}
use Rattle.row_schedule.specs.Schedules.{Building}

-- the slot that row r was made in last among the first j orders
unfoldable pub slot_of : List Order → ℕ → ℕ → Option ℕ
slot_of orders zero r = None
slot_of orders (suc j) r =
    if nat_eq (order_at orders j).row r then Some (order_at orders j).slot
    else slot_of orders j r

-- no order makes a row that one before it made
abbrev pub AreMadeOnce : List Order → Type 0
AreMadeOnce orders = (j : ℕ) → j < length orders →
    is_made orders j (order_at orders j).row ≡ false

-- the slots in which rows were made
abbrev pub AreFound : List Order → List (Option ℕ) → Type 0
AreFound orders found = (r : ℕ) →
    slice_index_or found r None ≡ slot_of orders (length orders) r

pub record AreMarked (b : Building) (marks found : List (Option ℕ)) : Type 0 where
  pub few : length b.slots ≤ 2 ^ 27
  pub entries : length marks ≡ length b.slots
  pub marks_are : (slot : ℕ) →
      slice_index_or marks slot None ≡ holds b.orders (length b.orders) slot
  pub found_are : AreFound b.orders found
  pub once : AreMadeOnce b.orders

-- both rows that a row is made of stand in slots other than its own; if the row has 16 bits, so
-- have both
pub record HasBoth (b : Building) (o : Order) (m : Merge) : Type 0 where
  pub upper : StandsBeside b.orders (length b.orders) o.slot m.upper
  pub lower : StandsBeside b.orders (length b.orders) o.slot m.lower
  pub narrow_sums : AreAsNarrow b.narrow o.row m

-- the slot of an order exists, and is as wide as its row
pub record HasWidth (b : Building) (o : Order) : Type 0 where
  pub slot : o.slot < length b.slots
  pub width : slice_index_or b.slots o.slot false ≡ is_narrow b.narrow o.row
