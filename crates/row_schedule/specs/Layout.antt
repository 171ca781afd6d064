-- Where slots begin, and where what is kept of rows begins.
use Rattle.std.specs.Prelude.{◌≡◌, ◌≢◌, ℕ, ◌+◌, ◌^◌, ◌≤◌, ◌<◌, true, false, Bool, List, zero, suc, length, slice_index, slice_index_or, if◌then◌else◌}
use Rattle.row_model.specs.declared.Rows.{Rows}
use Rattle.row_model.specs.Sums.{is_narrow}
use Rattle.row_model.specs.Tails.{row_count}
use Rattle.row_schedule.specs.declared.builder.Order.{Order}
use Rattle.row_schedule.specs.declared.lead.TheConstants.{LEAD, NARROW_LEAD}
use Rattle.row_schedule.specs.Orders.{order_at}
use Rattle.row_schedule.specs.Schedules.{Building}
use Rattle.row_schedule.specs.Steps.{AreApart}

-- whether a slot is for rows of 16 bits
abbrev pub slot_narrow : List Bool → ℕ → Bool
slot_narrow slots slot = slice_index_or slots slot false

-- how many values are kept of row r
abbrev pub tail_of : Rows → ℕ → ℕ
tail_of rows r = slice_index rows.tails.items r

-- how many values are kept of row r in a list of a width: all in that of the row's own width, none
-- in the other
abbrev pub kept_in : Rows → List Bool → Bool → ℕ → ℕ
kept_in rows narrow width r =
    if width then (if is_narrow narrow r then tail_of rows r else 0)
    else (if is_narrow narrow r then 0 else tail_of rows r)

-- how many values are kept of the rows before row r in the list of a width
unfoldable pub kept_before : Rows → List Bool → Bool → ℕ → ℕ
kept_before rows narrow width zero = 0
kept_before rows narrow width (suc r) =
    kept_before rows narrow width r + kept_in rows narrow width r

-- how many unused values stand in front of the list of a width
abbrev pub lead_of : Bool → ℕ
lead_of width = if width then NARROW_LEAD else LEAD

-- where the kept values of row r begin in the list of a width: only rows of this width have room
-- there
abbrev pub hold_of : Rows → List Bool → Bool → ℕ → ℕ
hold_of rows narrow width r = lead_of width + kept_before rows narrow width r

-- how long the list of a width is that has what is kept of all its rows
abbrev pub kept_room : Rows → List Bool → Bool → ℕ
kept_room rows narrow width = hold_of rows narrow width (row_count rows)

-- a list has for each row where its kept values begin in the list of its width
pub record HasHolds (rows : Rows) (narrow : List Bool) (held : List ℕ) : Type 0 where
  pub entries : length held ≡ row_count rows
  pub each : (r : ℕ) → r < row_count rows →
      slice_index held r ≡ hold_of rows narrow (is_narrow narrow r) r

-- a list has for each row where its kept values begin, and both lists have room for all of them
pub record AreHolds (rows : Rows) (narrow : List Bool) (held : List ℕ)
    (narrow_size wide_size : ℕ) : Type 0 where
  pub places : HasHolds rows narrow held
  pub narrow_end : narrow_size ≡ kept_room rows narrow true
  pub wide_end : wide_size ≡ kept_room rows narrow false

-- orders speak of rows that there are, and of the first slots
abbrev pub AreWithin : Rows → List Order → ℕ → Type 0
AreWithin rows orders slots = (j : ℕ) → j < length orders →
    ((order_at orders j).row < row_count rows) × ((order_at orders j).slot < slots)

-- a slot has room for what is kept of each row made in it, and for `most` values behind that
pub record AreSizes (rows : Rows) (orders : List Order) (slots most : ℕ) (sizes : List ℕ) :
    Type 0 where
  pub entries : length sizes ≡ slots
  pub short : (s : ℕ) → slice_index sizes s ≤ 2 ^ 17
  pub enough : (j : ℕ) → j < length orders → tail_of rows (order_at orders j).row + most
      ≤ slice_index sizes (order_at orders j).slot

-- the first slots of each width stand apart, within the list of that width
pub record AreLaid (slots : List Bool) (sizes : List ℕ) (count : ℕ) (places : List ℕ)
    (narrow_size wide_size : ℕ) : Type 0 where
  pub entries : length places ≡ count
  pub within : (s : ℕ) → s < count → slice_index places s + slice_index sizes s
      ≤ (if slot_narrow slots s then narrow_size else wide_size)
  pub apart : (s t : ℕ) → s < count → t < count → s ≢ t →
      slot_narrow slots s ≡ slot_narrow slots t →
      AreApart (slice_index places s) (slice_index sizes s) (slice_index places t)
      (slice_index sizes t)

-- the slots of a builder stand apart, and are long enough for its rows
pub record IsLaid (rows : Rows) (b : Building) (most : ℕ) (places : List ℕ)
    (narrow_size wide_size : ℕ) : Type 0 where
  pub sizes : List ℕ
  pub laid : AreLaid b.slots sizes (length b.slots) places narrow_size wide_size
  pub enough : AreSizes rows b.orders (length b.slots) most sizes
  pub near : (s : ℕ) → slice_index places s ≤ 2 ^ 50
