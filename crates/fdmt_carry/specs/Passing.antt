-- Passes: schedules that make the rows of the whole band one after another.
-- Source: this project's choice.
use Rattle.std.specs.Prelude.{◌≡◌, ℕ, ◌+◌, ◌-◌, ◌≤◌, ◌<◌, true, length, slice_index}
use Rattle.row_schedule.specs.Running.{Stores, IsLast, Kept, Running, Stands}
use Rattle.search_model.specs.Samples.{Filterbank}
use Rattle.subband_plan.specs.declared.rows.PlanRows.{PlanRows}
use Rattle.subband_plan.specs.Nodes.{BandPlan}
use Rattle.fdmt_carry.specs.declared.passing.Passing.{Passing}
use Rattle.fdmt_carry.specs.Orders.{AreLow, AreParts, AreStops, band_row}
use Rattle.fdmt_carry.specs.Tables.{IsScheduled, Tables, table_sums}

-- no row is made of a row of the whole band, and nothing is kept of it
abbrev pub BandRowsAreLast : BandPlan → PlanRows → Type 0
BandRowsAreLast p rows = (d : ℕ) → p.first ≤ d → d ≤ p.last →
    IsLast rows.rows (band_row p rows d)

-- A pass makes the rows of a plan over up to `chunk` spectra, if no sample is above m. Stop i + 1
-- is the number of orders that are carried out once row i of the whole band is made. The pass can
-- leave out rows of the whole band only if no row is made of such a row and nothing is kept of it.
pub record IsPass (p : BandPlan) (rows : PlanRows) (chunk m : ℕ) (pass : Passing) : Type 0 where
  pub runs : IsScheduled p rows chunk chunk pass.schedule
  pub parts : AreParts rows pass.schedule.narrow
  pub low : AreLow p rows pass.schedule.narrow m
  pub stops : AreStops p rows pass.schedule.orders pass.stops.items
  pub last : pass.can_leave_out ≡ true → BandRowsAreLast p rows

-- a pass over the rows of these tables
abbrev pub IsPassOf : Tables → ℕ → Passing → Type 0
IsPassOf t m pass = IsPass t.plan t.rows t.chunk m pass

-- how many orders of a pass are carried out before those that make the row of delay d of the whole
-- band
abbrev pub stop_at : Tables → Passing → ℕ → ℕ
stop_at t pass d = slice_index pass.stops.items (d - t.plan.first)

-- before the sums that end at spectrum u, this is kept of all rows for a pass
abbrev pub AreKept : Tables → Passing → Filterbank → ℕ → Stores → Type 0
AreKept t pass f u st = Kept t.rows.rows pass.schedule.narrow (table_sums t f) u st

-- the first `done` orders of a pass were carried out
abbrev pub HasDone : Tables → Passing → Filterbank → ℕ → ℕ → ℕ → Stores → Type 0
HasDone t pass f u spectra done st =
    Running t.rows.rows pass.schedule (table_sums t f) u spectra done st

-- A pass that has carried out `done` orders has come to the row of delay d of the whole band: past
-- the stop before this row, but not past the order that makes it. After the row of the last delay
-- all orders are carried out.
pub record IsBefore (t : Tables) (pass : Passing) (d done : ℕ) : Type 0 where
  pub from : stop_at t pass d ≤ done
  pub to : d ≤ t.plan.last → done < stop_at t pass (d + 1)
  pub end : d ≡ t.plan.last + 1 → done ≡ length pass.schedule.orders

-- the row of delay d of the whole band stands
abbrev pub HasBandRow : Tables → Passing → Filterbank → ℕ → ℕ → ℕ → Stores → Type 0
HasBandRow t pass f u spectra d st =
    Stands t.rows.rows pass.schedule (table_sums t f) u spectra st (stop_at t pass (d + 1) - 1)
