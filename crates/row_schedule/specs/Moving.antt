-- How what is kept of rows is read and written in the list of its width.
-- Source: this project's choice.
use Rattle.std.specs.Prelude.{◌≡◌, ℕ, ◌+◌, ◌^◌, ◌≤◌, ◌<◌, true, Bool, List, [], length, slice_index}
use Rattle.row_model.specs.declared.Rows.{Rows}
use Rattle.row_model.specs.Sums.{Sums, Fit, is_narrow}
use Rattle.row_schedule.specs.declared.kept.Hold.{Hold}
use Rattle.row_schedule.specs.declared.kept.KeptValues.{KeptValues}
use Rattle.row_schedule.specs.declared.kept.KeptValues.TheVariants.{Narrow, Wide}
use Rattle.row_schedule.specs.Layout.{hold_of, kept_room, tail_of}
use Rattle.row_schedule.specs.Running.{Stores, Kept, KeepsRow, kept_of, stores}
use Rattle.row_schedule.specs.Steps.{AreApart}

-- the list that is lent, whatever its width
abbrev pub lent : KeptValues → List ℕ
lent (Narrow values) = values.now
lent (Wide values) = values.now

-- what is kept alone, in 16 and in 32 bits
abbrev pub kept_lists : List ℕ → List ℕ → Stores
kept_lists kept_narrow kept_wide = stores [] [] kept_narrow kept_wide

-- a value is written in 16 bits (narrow) or in 32, and stays the same if it fits
abbrev pub Writes : Bool → ℕ → ℕ → Type 0
Writes narrow value written = (narrow ≡ true → value < 2 ^ 16) → written ≡ value

-- `count` values of another list are written into the list of a width, from place `at` on
pub record PutsKept (narrow : Bool) (others : List ℕ) (from : ℕ) (old new : List ℕ)
    (at count : ℕ) : Type 0 where
  pub written : (i : ℕ) → i < count →
      Writes narrow (slice_index others (from + i)) (slice_index new (at + i))
  pub stays : (k : ℕ) → AreApart k 1 at count → slice_index new k ≡ slice_index old k

-- the list of each width has room for what is kept of the rows of this width
abbrev pub HaveKeptRoom : Rows → List Bool → Stores → Type 0
HaveKeptRoom rows narrow st = (width : Bool) →
    kept_room rows narrow width ≤ length (kept_of width st)

-- what is kept of row r stands there, within the list of its width
pub record IsHold (rows : Rows) (narrow : List Bool) (r : ℕ) (hold : Hold) : Type 0 where
  pub narrow_is : hold.narrow ≡ is_narrow narrow r
  pub at_is : hold.at ≡ hold_of rows narrow (is_narrow narrow r) r
  pub size_is : hold.size ≡ tail_of rows r
  pub few : hold.at ≤ 2 ^ 42
  pub short : hold.size ≤ 2 ^ 14
  pub within : hold.at + hold.size ≤ kept_room rows narrow (is_narrow narrow r)

-- before the sums that end at spectrum u, this is kept of the first r rows
abbrev pub KeepFirst : Rows → List Bool → Sums → ℕ → Stores → ℕ → Type 0
KeepFirst rows narrow y u st r = (q : ℕ) → q < r → KeepsRow rows narrow y u st q

-- what was kept in some lists is kept in others, whose rows may have other widths
abbrev pub GoesOver : Rows → List Bool → List Bool → Stores → Stores → Type 0
GoesOver rows narrow next old new = (y : Sums) (u : ℕ) → Fit next y u →
    Kept rows narrow y u old → Kept rows next y u new
