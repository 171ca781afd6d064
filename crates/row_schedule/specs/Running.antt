-- What rows and kept values stand for while a schedule is carried out.
-- Source: this project's choice.
use Rattle.std.specs.Prelude.{◌≡◌, ℕ, ◌+◌, ◌≤◌, ◌<◌, ◌⊎◌, true, false, Bool, List, Some, length, slice_get, slice_index, if◌then◌else◌}
use Rattle.row_model.specs.declared.Merge.{Merge}
use Rattle.row_model.specs.declared.Rows.{Rows}
use Rattle.row_model.specs.declared.Source.TheVariants.{Sum}
use Rattle.row_model.specs.Sums.{Sums, is_narrow, value_of}
use Rattle.row_model.specs.Tails.{row_count}
use Rattle.row_schedule.specs.Orders.{holds, is_made, order_at}
use Rattle.row_schedule.specs.Schedules.{Scheduled}
use Rattle.row_schedule.specs.Layout.{hold_of, slot_narrow}

-- the lists that a schedule works on: the slots of rows of 16 and of 32 bits, and what is kept of
-- such rows
pub record Stores : Type 0 where
  pub narrow : List ℕ
  pub wide : List ℕ
  pub kept_narrow : List ℕ
  pub kept_wide : List ℕ

abbrev pub stores : List ℕ → List ℕ → List ℕ → List ℕ → Stores
stores narrow wide kept_narrow kept_wide = record {
  narrow = narrow;
  wide = wide;
  kept_narrow = kept_narrow;
  kept_wide = kept_wide;
}

-- the lists are as long as a schedule needs, or longer
pub record HaveRoom (s : Scheduled) (st : Stores) : Type 0 where
  pub narrow_room : s.narrow_size ≤ length st.narrow
  pub wide_room : s.wide_size ≤ length st.wide
  pub kept_narrow_room : s.kept_narrow_size ≤ length st.kept_narrow
  pub kept_wide_room : s.kept_wide_size ≤ length st.kept_wide

-- each list is as long as it was
pub record AreAsLong (old new : Stores) : Type 0 where
  pub narrow : length new.narrow ≡ length old.narrow
  pub wide : length new.wide ≡ length old.wide
  pub kept_narrow : length new.kept_narrow ≡ length old.kept_narrow
  pub kept_wide : length new.kept_wide ≡ length old.kept_wide

-- the slots of a width, and what is kept of its rows
abbrev pub list_of : Bool → Stores → List ℕ
list_of narrow st = if narrow then st.narrow else st.wide

abbrev pub kept_of : Bool → Stores → List ℕ
kept_of narrow st = if narrow then st.kept_narrow else st.kept_wide

-- value i of what is kept of row r
abbrev pub kept_value : Rows → List Bool → Stores → ℕ → ℕ → ℕ
kept_value rows narrow st r i =
    slice_index (kept_of (is_narrow narrow r) st) (hold_of rows narrow (is_narrow narrow r) r + i)

-- value i of a slot
abbrev pub slot_value : Scheduled → Stores → ℕ → ℕ → ℕ
slot_value s st slot i =
    slice_index (list_of (slot_narrow s.slots slot) st) (slice_index s.places slot + i)

-- before the sums that end at spectrum u, this is kept of row r
abbrev pub KeepsRow : Rows → List Bool → Sums → ℕ → Stores → ℕ → Type 0
KeepsRow rows narrow y u st r = (i : ℕ) → i < slice_index rows.tails.items r →
    kept_value rows narrow st r i ≡ value_of y rows.tails.items u r i

-- before the sums that end at spectrum u, this is kept of all rows
abbrev pub Kept : Rows → List Bool → Sums → ℕ → Stores → Type 0
Kept rows narrow y u st = (r : ℕ) → r < row_count rows → KeepsRow rows narrow y u st r

-- a slot has row r, whose values behind those that are kept end at spectrum u and after it
abbrev pub SlotHas : Rows → Scheduled → Sums → ℕ → ℕ → Stores → ℕ → ℕ → Type 0
SlotHas rows s y u spectra st slot r = (i : ℕ) → i < slice_index rows.tails.items r + spectra →
    slot_value s st slot i ≡ value_of y rows.tails.items u r i

-- the slot of an order has its row
abbrev pub Stands : Rows → Scheduled → Sums → ℕ → ℕ → Stores → ℕ → Type 0
Stands rows s y u spectra st order = SlotHas rows s y u spectra st
    (order_at s.orders order).slot (order_at s.orders order).row

-- a row is made of row r
pub record IsUsed (rows : Rows) (r : ℕ) : Type 0 where
  pub by : ℕ
  pub merge : Merge
  pub source : slice_get rows.sources.items by ≡ Some (Sum merge)
  pub half : (merge.upper ≡ r) ⊎ (merge.lower ≡ r)

-- no row is made of row r, and nothing is kept of it
pub record IsLast (rows : Rows) (r : ℕ) : Type 0 where
  pub unused : IsUsed rows r → ⊥
  pub nothing_kept : slice_index rows.tails.items r ≡ 0

-- The first j orders were carried out on the spectra from spectrum u on, but for some whose rows are
-- last ones: the slots have the rows that were made in them last, as far as others are made of
-- them, and what is kept of the rows that were made is of these spectra.
pub record Running (rows : Rows) (s : Scheduled) (y : Sums) (u spectra j : ℕ) (st : Stores) :
    Type 0 where
  pub slots : (slot r : ℕ) → holds s.orders j slot ≡ Some r → IsUsed rows r →
      SlotHas rows s y u spectra st slot r
  pub made : (r : ℕ) → r < row_count rows → is_made s.orders j r ≡ true →
      KeepsRow rows s.narrow y (u + spectra) st r
  pub others : (r : ℕ) → r < row_count rows → is_made s.orders j r ≡ false →
      KeepsRow rows s.narrow y u st r
