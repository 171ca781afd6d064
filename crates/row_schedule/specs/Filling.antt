-- Rows that are each made at a place of its own, where they stand all at once. What is kept of a
-- row does not stand in front of it.
use Rattle.std.specs.Prelude.{◌≡◌, ◌≢◌, ℕ, ◌+◌, ◌-◌, ◌*◌, ◌%◌, ◌^◌, ◌≤◌, ◌<◌, Bool, List, Some, length, slice_get, slice_index}
use Rattle.fdmt_rows.specs.Rows.{wrapping_sum}
use Rattle.row_model.specs.declared.Merge.{Merge}
use Rattle.row_model.specs.declared.Rows.{Rows}
use Rattle.row_model.specs.declared.Source.TheVariants.{Sum}
use Rattle.row_model.specs.Sums.{Sums, AddUp, Fit}
use Rattle.row_model.specs.Tails.{AreRows, row_count}
use Rattle.row_schedule.specs.declared.lead.TheConstants.{LEAD}
use Rattle.row_schedule.specs.Samples.{AreNext}
use Rattle.row_schedule.specs.Steps.{AreApart}
use Rattle.row_schedule.specs.Layout.{tail_of}
use Rattle.row_schedule.specs.Moving.{KeepFirst, Writes}
use Rattle.row_schedule.specs.Running.{Stores, Kept, KeepsRow, kept_value}

-- the place of row r, if each row has a place of `room` values
abbrev pub own_place : ℕ → ℕ → ℕ
own_place room r = LEAD + r * room

-- the length of a list with a place for each row
abbrev pub table_size : Rows → ℕ → ℕ
table_size rows room = own_place room (row_count rows)

-- there is room for all rows at their places
abbrev pub HaveTableRoom : Rows → ℕ → Stores → Type 0
HaveTableRoom rows room st = table_size rows room ≤ length st.wide

-- row r stands at its place: its `spectra` values that end at spectrum u and after it
abbrev pub StandsAtPlace : ℕ → Sums → ℕ → ℕ → List ℕ → ℕ → Type 0
StandsAtPlace room y u spectra wide r = (i : ℕ) → i < spectra →
    slice_index wide (own_place room r + i) ≡ y r (u + i) 0 % 2 ^ 32

-- a row is not made of itself
pub record IsOfOthers (rows : Rows) (r : ℕ) : Type 0 where
  pub upper : (m : Merge) → slice_get rows.sources.items r ≡ Some (Sum m) → m.upper ≢ r
  pub lower : (m : Merge) → slice_get rows.sources.items r ≡ Some (Sum m) → m.lower ≢ r

-- the rows that row r is made of stand at their places
pub record HasSources (rows : Rows) (room : ℕ) (y : Sums) (u spectra : ℕ) (wide : List ℕ) (r : ℕ) :
    Type 0 where
  pub upper : (m : Merge) → slice_get rows.sources.items r ≡ Some (Sum m) →
      StandsAtPlace room y u spectra wide m.upper
  pub lower : (m : Merge) → slice_get rows.sources.items r ≡ Some (Sum m) →
      StandsAtPlace room y u spectra wide m.lower

-- the list has `spectra` samples of each channel; those of a channel begin `chunk` places after
-- those of the one before
pub record HaveSamples (rows : Rows) (chunk spectra : ℕ) (samples : List ℕ) : Type 0 where
  pub channels : ℕ
  pub rows_are : AreRows channels rows
  pub within : channels * chunk ≤ length samples + (chunk - spectra)

-- a place of a row has room for these spectra, and a chunk has room for a place
pub record AreShort (spectra room chunk : ℕ) : Type 0 where
  pub short : spectra ≤ room
  pub within : room ≤ chunk
  pub few : chunk ≤ 65536

-- The samples are those of the spectra from spectrum u on, and what is kept of all rows is of the
-- spectra before u.
pub record AreGiven (rows : Rows) (narrow : List Bool) (x : ℕ → ℕ → ℕ) (y : Sums)
    (u chunk spectra : ℕ) (samples : List ℕ) (st : Stores) : Type 0 where
  pub adds : AddUp rows.sources.items x y
  pub channels : ℕ
  pub rows_are : AreRows channels rows
  pub next : AreNext x channels chunk u spectra samples
  pub kept_are : Kept rows narrow y u st

-- `count` sums of two rows were written, the upper row taken `late` spectra earlier: its first
-- values are those of `first`
pub record AddsLate (late : ℕ) (first : ℕ → ℕ) (upper lower at count : ℕ) (old new : List ℕ) :
    Type 0 where
  pub early : (i : ℕ) → i < late → i < count → slice_index new (at + i)
      ≡ wrapping_sum (first i) (slice_index old (lower + i))
  pub rest : (i : ℕ) → late ≤ i → i < count → slice_index new (at + i)
      ≡ wrapping_sum (slice_index old (upper + (i - late))) (slice_index old (lower + i))
  pub stays : (k : ℕ) → AreApart k 1 at count → slice_index new k ≡ slice_index old k

-- the two rows that row r is made of were added, all three at their places
abbrev pub AddsSources : Rows → List Bool → Merge → ℕ → ℕ → ℕ → Stores → List ℕ → List ℕ → Type 0
AddsSources rows narrow m r room spectra st old new = AddsLate m.late
    (λ i. kept_value rows narrow st m.upper (tail_of rows m.upper - m.late + i))
    (own_place room m.upper) (own_place room m.lower) (own_place room r) spectra old new

-- `count` others were moved from the end into `size` values of a list of 16 bits (narrow) or 32:
-- the first values left it
pub record GoesOnBy (narrow : Bool) (at size from count : ℕ) (others old new : List ℕ) :
    Type 0 where
  pub left : (i : ℕ) → i + count < size →
      slice_index new (at + i) ≡ slice_index old (at + (count + i))
  pub new_ones : (i : ℕ) → i < size → size ≤ i + count →
      Writes narrow (slice_index others (from + (i + count - size))) (slice_index new (at + i))
  pub stays : (k : ℕ) → AreApart k 1 at size → slice_index new k ≡ slice_index old k

-- the first r rows are kept for the spectra after the next ones, the others still for the next ones
pub record AreKeptOn (rows : Rows) (narrow : List Bool) (y : Sums) (u spectra r : ℕ)
    (st : Stores) : Type 0 where
  pub first : KeepFirst rows narrow y (u + spectra) st r
  pub others : (q : ℕ) → r ≤ q → q < row_count rows → KeepsRow rows narrow y u st q

-- if all rows stand at their places, all are kept for the spectra after these
abbrev pub KeepsOn : Rows → List Bool → ℕ → ℕ → List ℕ → Stores → Stores → Type 0
KeepsOn rows narrow room spectra wide old new = (x : ℕ → ℕ → ℕ) (y : Sums) (u : ℕ) →
    AddUp rows.sources.items x y → Fit narrow y (u + spectra) → Kept rows narrow y u old →
    ((r : ℕ) → r < row_count rows → StandsAtPlace room y u spectra wide r) →
    Kept rows narrow y (u + spectra) new

-- only the list `wide` was written, and no length changed
pub record WroteWide (old new : Stores) : Type 0 where
  pub long : length new.wide ≡ length old.wide
  pub narrow : new.narrow ≡ old.narrow
  pub kept_narrow : new.kept_narrow ≡ old.kept_narrow
  pub kept_wide : new.kept_wide ≡ old.kept_wide

-- only what is kept was written, and no length changed
pub record WroteKept (old new : Stores) : Type 0 where
  pub narrow : new.narrow ≡ old.narrow
  pub wide : new.wide ≡ old.wide
  pub kept_narrow : length new.kept_narrow ≡ length old.kept_narrow
  pub kept_wide : length new.kept_wide ≡ length old.kept_wide
