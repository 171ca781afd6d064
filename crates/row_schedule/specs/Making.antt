-- What one step leaves in the lists.
-- Source: this project's choice.
use Rattle.std.specs.Prelude.{◌≡◌, ℕ, ◌+◌, ◌%◌, ◌^◌, ◌≤◌, ◌<◌, Bool, List, not, slice_index, if◌then◌else◌}
use Rattle.row_schedule.specs.declared.step.Step.{Step}
use Rattle.row_schedule.specs.declared.step.Kind.{Kind}
use Rattle.row_schedule.specs.Steps.{AreApart, copies, makes_narrow, upper_narrow, lower_narrow}
use Rattle.row_schedule.specs.Running.{Stores, list_of, kept_of}

-- `count` values from a place on are those given, and all others stay
pub record Puts (old new : List ℕ) (at count : ℕ) (value : ℕ → ℕ) : Type 0 where
  pub written : (i : ℕ) → i < count → slice_index new (at + i) ≡ value i
  pub stays : (k : ℕ) → AreApart k 1 at count → slice_index new k ≡ slice_index old k

-- a step makes its row within a list, and keeps its end within another
pub record OwnFits (step : Step) (spectra size kept_size : ℕ) : Type 0 where
  pub own : step.out + (step.tail + spectra) ≤ size
  pub kept : step.hold + step.tail ≤ kept_size

-- as many values as a step adds stand in a list of this length, apart from those that it makes
pub record IsBeside (step : Step) (spectra place size : ℕ) : Type 0 where
  pub within : place + spectra ≤ size
  pub apart : AreApart place spectra step.out (step.tail + spectra)

-- What was kept is the front of a row, `next` gives the values behind it, and its last values are
-- what is kept now; `old` and `new` are the list it stands in, `kept` and `kept'` what is kept.
pub record Makes (step : Step) (spectra : ℕ) (old new kept kept' : List ℕ) (next : ℕ → ℕ) :
    Type 0 where
  pub front : (i : ℕ) → i < step.tail →
      slice_index new (step.out + i) ≡ slice_index kept (step.hold + i)
  pub behind : (i : ℕ) → i < spectra → slice_index new (step.out + (step.tail + i)) ≡ next i
  pub keeps : (i : ℕ) → i < step.tail →
      slice_index kept' (step.hold + i) ≡ slice_index new (step.out + (spectra + i))
  pub stays : (k : ℕ) → AreApart k 1 step.out (step.tail + spectra) →
      slice_index new k ≡ slice_index old k
  pub kept_stays : (k : ℕ) → AreApart k 1 step.hold step.tail →
      slice_index kept' k ≡ slice_index kept k

-- a value in the bits of a row
abbrev pub in_bits : Bool → ℕ → ℕ
in_bits narrow x = if narrow then x % 2 ^ 16 else x % 2 ^ 32

-- value i of the next spectra: a sample, or the sum of a value of each of two rows
abbrev pub next_value : Kind → Step → List ℕ → Stores → ℕ → ℕ
next_value kind step samples st i = in_bits (makes_narrow kind)
    (if copies kind then slice_index samples (step.upper + i)
    else slice_index (list_of (upper_narrow kind) st) (step.upper + i)
    + slice_index (list_of (lower_narrow kind) st) (step.lower + i))

-- a step of this kind makes its row in the list of its width, and leaves those of the other width
pub record StepMade (kind : Kind) (step : Step) (spectra : ℕ) (samples : List ℕ)
    (old new : Stores) : Type 0 where
  pub own : Makes step spectra (list_of (makes_narrow kind) old) (list_of (makes_narrow kind) new)
      (kept_of (makes_narrow kind) old) (kept_of (makes_narrow kind) new)
      (next_value kind step samples old)
  pub rest : list_of (not (makes_narrow kind)) new ≡ list_of (not (makes_narrow kind)) old
  pub kept_rest : kept_of (not (makes_narrow kind)) new ≡ kept_of (not (makes_narrow kind)) old
