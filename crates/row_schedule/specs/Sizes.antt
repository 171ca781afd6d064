-- How long the lists are that schedules work on.
-- Source: this project's choice.
use Rattle.std.specs.Prelude.{◌≡◌, ℕ, ◌≤◌, length, replicate}
use Rattle.row_model.specs.declared.Rows.{Rows}
use Rattle.row_schedule.specs.declared.stores.Sizes.{Sizes}
use Rattle.row_schedule.specs.Running.{Stores}
use Rattle.row_schedule.specs.Schedules.{Scheduled}
use Rattle.row_schedule.specs.Filling.{table_size}

-- lists of these lengths are as long as a schedule needs, or longer
pub record AreEnough (s : Scheduled) (sizes : Sizes) : Type 0 where
  pub narrow : s.narrow_size ≤ sizes.narrow
  pub wide : s.wide_size ≤ sizes.wide
  pub kept_narrow : s.kept_narrow_size ≤ sizes.kept_narrow
  pub kept_wide : s.kept_wide_size ≤ sizes.kept_wide

-- lists of these lengths are long enough for rows that are each made at a place of its own
abbrev pub AreEnoughForTables : Rows → ℕ → Sizes → Type 0
AreEnoughForTables rows room sizes = table_size rows room ≤ sizes.wide

-- lists have memory for these lengths
pub record AreReserved (sizes : Sizes) (narrow wide kept_narrow kept_wide : ℕ) : Type 0 where
  pub narrow_room : sizes.narrow ≤ narrow
  pub wide_room : sizes.wide ≤ wide
  pub kept_narrow_room : sizes.kept_narrow ≤ kept_narrow
  pub kept_wide_room : sizes.kept_wide ≤ kept_wide

-- lists have these lengths, or are longer
pub record HaveSizes (sizes : Sizes) (st : Stores) : Type 0 where
  pub narrow : sizes.narrow ≤ length st.narrow
  pub wide : sizes.wide ≤ length st.wide
  pub kept_narrow : sizes.kept_narrow ≤ length st.kept_narrow
  pub kept_wide : sizes.kept_wide ≤ length st.kept_wide

-- lists of zeros have these lengths
pub record AreZeros (sizes : Sizes) (st : Stores) : Type 0 where
  pub narrow : st.narrow ≡ replicate sizes.narrow 0
  pub wide : st.wide ≡ replicate sizes.wide 0
  pub kept_narrow : st.kept_narrow ≡ replicate sizes.kept_narrow 0
  pub kept_wide : st.kept_wide ≡ replicate sizes.kept_wide 0
