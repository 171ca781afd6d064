-- In which order rows are made, and where. A row is made in a slot; a slot can be used again for
-- other rows, and has the one that was made in it last.
-- Source: this project's choice.
use Rattle.std.specs.Prelude.{◌≡◌, ◌≢◌, ℕ, ◌<◌, true, false, Bool, List, Option, None, Some, zero, suc, nat_eq, length, slice_get, slice_index_or, if◌then◌else◌}
use Rattle.row_model.specs.declared.Merge.{Merge}
use Rattle.row_model.specs.declared.Source.TheVariants.{Sum}
use Rattle.row_model.specs.declared.Rows.{Rows}
use Rattle.row_model.specs.Sums.{is_narrow}
use Rattle.row_model.specs.Tails.{row_count}
use Rattle.row_schedule.specs.declared.builder.Order.{Order}

abbrev pub order_at : List Order → ℕ → Order
order_at orders j = slice_index_or orders j (record { row = 0; slot = 0 })

-- the row that a slot has after the first j orders
unfoldable pub holds : List Order → ℕ → ℕ → Option ℕ
holds orders zero slot = None
holds orders (suc j) slot =
    if nat_eq (order_at orders j).slot slot then Some (order_at orders j).row
    else holds orders j slot

-- whether one of the first j orders makes row r
unfoldable pub is_made : List Order → ℕ → ℕ → Bool
is_made orders zero r = false
is_made orders (suc j) r =
    if nat_eq (order_at orders j).row r then true else is_made orders j r

-- after the first j orders, a slot other than `slot` has row r
abbrev pub StandsBeside : List Order → ℕ → ℕ → ℕ → Type 0
StandsBeside orders j slot r = (s : ℕ) × (holds orders j s ≡ Some r) × (s ≢ slot)

-- a row of 16 bits is made only of rows of 16 bits
pub record AreAsNarrow (narrow : List Bool) (r : ℕ) (m : Merge) : Type 0 where
  pub upper : is_narrow narrow r ≡ true → is_narrow narrow m.upper ≡ true
  pub lower : is_narrow narrow r ≡ true → is_narrow narrow m.lower ≡ true

-- After the first j orders a row can be made in a slot: it was not made, the slot is as wide as the
-- row, and what it is made of stands in other slots. `slots` tells which slots are for rows of 16
-- bits, `narrow` which rows have 16 bits.
pub record IsReady (rows : Rows) (narrow slots : List Bool) (orders : List Order) (j : ℕ)
    (o : Order) : Type 0 where
  pub row : o.row < row_count rows
  pub slot : o.slot < length slots
  pub width : slice_index_or slots o.slot false ≡ is_narrow narrow o.row
  pub once : is_made orders j o.row ≡ false
  pub upper : (m : Merge) → slice_get rows.sources.items o.row ≡ Some (Sum m) →
      StandsBeside orders j o.slot m.upper
  pub lower : (m : Merge) → slice_get rows.sources.items o.row ≡ Some (Sum m) →
      StandsBeside orders j o.slot m.lower
  pub narrow_sums : (m : Merge) → slice_get rows.sources.items o.row ≡ Some (Sum m) →
      AreAsNarrow narrow o.row m

-- each of the orders can be carried out after those before it
abbrev pub AreInOrder : Rows → List Bool → List Bool → List Order → Type 0
AreInOrder rows narrow slots orders = (j : ℕ) → j < length orders →
    IsReady rows narrow slots orders j (order_at orders j)

-- the orders make every row of which something is kept
abbrev pub MakeAll : Rows → List Order → Type 0
MakeAll rows orders = (r : ℕ) → r < row_count rows → 0 < slice_index_or rows.tails.items r 0 →
    is_made orders (length orders) r ≡ true
