-- What each kind of step reads and writes, and that it does so within the lists it works on.
-- Source: this project's choice.
use Rattle.std.specs.Prelude.{◌≡◌, ℕ, ◌+◌, ◌*◌, ◌≤◌, ◌<◌, ◌⊎◌, true, false, Bool, List, length, slice_index_or, if◌then◌else◌}
use Rattle.row_schedule.specs.declared.step.Step.{Step}
use Rattle.row_schedule.specs.declared.step.Kind.{Kind}
use Rattle.row_schedule.specs.declared.step.Kind.TheVariants.{CopyNarrow, CopyWide, AddNarrow, AddWidened, AddWideNarrow, AddNarrowWide, AddWide}
use Rattle.row_schedule.specs.Schedules.{Scheduled}

-- whether the row that is made has 16 bits
abbrev pub makes_narrow : Kind → Bool
makes_narrow CopyNarrow = true
makes_narrow CopyWide = false
makes_narrow AddNarrow = true
makes_narrow AddWidened = false
makes_narrow AddWideNarrow = false
makes_narrow AddNarrowWide = false
makes_narrow AddWide = false

-- whether the row that is made has the samples of a channel
abbrev pub copies : Kind → Bool
copies CopyNarrow = true
copies CopyWide = true
copies AddNarrow = false
copies AddWidened = false
copies AddWideNarrow = false
copies AddNarrowWide = false
copies AddWide = false

-- whether the upper one of two rows that are added has 16 bits
abbrev pub upper_narrow : Kind → Bool
upper_narrow CopyNarrow = false
upper_narrow CopyWide = false
upper_narrow AddNarrow = true
upper_narrow AddWidened = true
upper_narrow AddWideNarrow = false
upper_narrow AddNarrowWide = true
upper_narrow AddWide = false

-- whether the lower one of two rows that are added has 16 bits
abbrev pub lower_narrow : Kind → Bool
lower_narrow CopyNarrow = false
lower_narrow CopyWide = false
lower_narrow AddNarrow = true
lower_narrow AddWidened = true
lower_narrow AddWideNarrow = true
lower_narrow AddNarrowWide = false
lower_narrow AddWide = false

-- step j
abbrev pub step_at : List Step → ℕ → Step
step_at steps j = slice_index_or steps j (record {
  kind = CopyWide;
  tail = 0;
  out = 0;
  hold = 0;
  upper = 0;
  lower = 0;
})

-- n values from place a on and m values from place b on have no place in common
abbrev pub AreApart : ℕ → ℕ → ℕ → ℕ → Type 0
AreApart a n b m = (a + n ≤ b) ⊎ (b + m ≤ a)

-- how many values the list of a width has at least
abbrev pub size_of : Scheduled → Bool → ℕ
size_of s narrow = if narrow then s.narrow_size else s.wide_size

-- how many values the list of what is kept in a width has at least
abbrev pub kept_size_of : Scheduled → Bool → ℕ
kept_size_of s narrow = if narrow then s.kept_narrow_size else s.kept_wide_size

-- the values that a step adds or copies from a place on lie within the list of a width, apart from
-- those that it makes
pub record PartFits (s : Scheduled) (step : Step) (narrow : Bool) (place : ℕ) : Type 0 where
  pub within : place + s.most ≤ size_of s narrow
  pub apart : narrow ≡ makes_narrow step.kind →
      AreApart place s.most step.out (step.tail + s.most)

-- a step reads and writes within the lists
pub record StepFits (s : Scheduled) (step : Step) : Type 0 where
  pub own : step.out + (step.tail + s.most) ≤ size_of s (makes_narrow step.kind)
  pub kept : step.hold + step.tail ≤ kept_size_of s (makes_narrow step.kind)
  pub samples : copies step.kind ≡ true → step.upper + s.chunk ≤ s.channels * s.chunk
  pub upper : copies step.kind ≡ false → PartFits s step (upper_narrow step.kind) step.upper
  pub lower : copies step.kind ≡ false → PartFits s step (lower_narrow step.kind) step.lower

-- all steps read and write within the lists, and there is one for each order
pub record IsSafe (s : Scheduled) : Type 0 where
  pub entries : length s.steps ≡ length s.orders
  pub slot_entries : length s.places ≡ length s.slots
  pub within : s.most ≤ s.chunk
  pub fit : (j : ℕ) → j < length s.steps → StepFits s (step_at s.steps j)
