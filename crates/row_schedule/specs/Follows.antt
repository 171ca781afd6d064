-- That the steps of a schedule make the rows of its orders.
-- Source: this project's choice.
use Rattle.std.specs.Prelude.{◌≡◌, ◌≢◌, ℕ, ◌+◌, ◌*◌, ◌<◌, true, false, Bool, List, Some, length, slice_get, slice_index}
use Rattle.row_model.specs.declared.Merge.{Merge}
use Rattle.row_model.specs.declared.Source.TheVariants.{Channel, Sum}
use Rattle.row_model.specs.declared.Rows.{Rows}
use Rattle.row_model.specs.Sums.{is_narrow}
use Rattle.row_model.specs.Tails.{AreRows}
use Rattle.row_schedule.specs.declared.builder.Order.{Order}
use Rattle.row_schedule.specs.declared.step.Step.{Step}
use Rattle.row_schedule.specs.Orders.{AreInOrder, MakeAll, order_at, holds}
use Rattle.row_schedule.specs.Schedules.{Scheduled}
use Rattle.row_schedule.specs.Steps.{AreApart, copies, makes_narrow, upper_narrow, lower_narrow, step_at}
use Rattle.row_schedule.specs.Layout.{AreHolds, hold_of, slot_narrow, tail_of}

-- after the first j orders another slot than that of order j has row r, and place p is where the
-- values of the next spectra begin in it
pub record BeginsAt (rows : Rows) (orders : List Order) (places : List ℕ) (j r p : ℕ) : Type 0 where
  pub slot : ℕ
  pub has : holds orders j slot ≡ Some r
  pub other : slot ≢ (order_at orders j).slot
  pub place : p ≡ slice_index places slot + tail_of rows r

-- a step adds the values of two rows, of which the upper one ends `late` spectra earlier
pub record AddsRows (rows : Rows) (narrow : List Bool) (orders : List Order) (places : List ℕ)
    (j : ℕ) (m : Merge) (step : Step) : Type 0 where
  pub adds : copies step.kind ≡ false
  pub upper_width : upper_narrow step.kind ≡ is_narrow narrow m.upper
  pub lower_width : lower_narrow step.kind ≡ is_narrow narrow m.lower
  pub upper : BeginsAt rows orders places j m.upper (step.upper + m.late)
  pub lower : BeginsAt rows orders places j m.lower step.lower

-- a step copies the samples of channel c
pub record CopiesChannel (chunk c : ℕ) (step : Step) : Type 0 where
  pub copies_it : copies step.kind ≡ true
  pub from : step.upper ≡ c * chunk

-- step j makes the row of order j in its slot
pub record IsStep (rows : Rows) (narrow : List Bool) (orders : List Order) (places : List ℕ)
    (chunk j : ℕ) (step : Step) : Type 0 where
  pub out : step.out ≡ slice_index places (order_at orders j).slot
  pub tail : step.tail ≡ tail_of rows (order_at orders j).row
  pub hold : step.hold ≡ hold_of rows narrow (is_narrow narrow (order_at orders j).row)
      (order_at orders j).row
  pub width : makes_narrow step.kind ≡ is_narrow narrow (order_at orders j).row
  pub channel : (c : ℕ) → slice_get rows.sources.items (order_at orders j).row ≡ Some (Channel c) →
      CopiesChannel chunk c step
  pub sum : (m : Merge) → slice_get rows.sources.items (order_at orders j).row ≡ Some (Sum m) →
      AddsRows rows narrow orders places j m step

-- each step j makes the row of order j in its slot
abbrev pub AreSteps : Rows → List Bool → List Order → List ℕ → ℕ → List Step → Type 0
AreSteps rows narrow orders places chunk steps = (j : ℕ) → j < length steps →
    IsStep rows narrow orders places chunk j (step_at steps j)

-- rows that are made in different slots of one width stand apart
abbrev pub StandApart : Rows → Scheduled → Type 0
StandApart rows s = (i j : ℕ) → i < length s.orders → j < length s.orders →
    (order_at s.orders i).slot ≢ (order_at s.orders j).slot →
    slot_narrow s.slots (order_at s.orders i).slot ≡ slot_narrow s.slots (order_at s.orders j).slot →
    AreApart (slice_index s.places (order_at s.orders i).slot)
    (tail_of rows (order_at s.orders i).row + s.most)
    (slice_index s.places (order_at s.orders j).slot)
    (tail_of rows (order_at s.orders j).row + s.most)

-- a schedule makes these rows
pub record Follows (rows : Rows) (s : Scheduled) : Type 0 where
  pub rows_are : AreRows s.channels rows
  pub order : AreInOrder rows s.narrow s.slots s.orders
  pub all : MakeAll rows s.orders
  pub entries : length s.steps ≡ length s.orders
  pub steps_are : AreSteps rows s.narrow s.orders s.places s.chunk s.steps
  pub apart : StandApart rows s
  pub holds_are : AreHolds rows s.narrow s.held s.kept_narrow_size s.kept_wide_size
