-- What pulses add to bytes that stand for cells, one after another.
-- Source: this project's choice.
use Rattle.std.specs.Prelude.{◌≡◌, ℕ, ◌+◌, ◌*◌, ◌/◌, ◌%◌, ◌<◌, ◌≤◌, ◌&&◌, nat_lt, nat_le, ◌==◌, if◌then◌else◌, List, length, slice_index}
use Rattle.psr_make.specs.Pulses.{is_passed}
use Rattle.psr_make.specs.Made.{value_bytes, cell_bytes, is_on_train}
use Rattle.psr_make.specs.declared.spec.MakeSpec.{MakeSpec}

-- the low byte of each value of `wide` bytes has grown by a height
abbrev pub AreRaised : ℕ → ℕ → List ℕ → List ℕ → Type 0
AreRaised wide height old new = (x : ℕ) → x < length old
    → slice_index new x ≡ slice_index old x + (if x % wide == 0 then height else 0)

-- the low byte of each value of cell i has grown by what `amount` has for it
pub record Raises (s : MakeSpec) (old new : List ℕ) (amount : ℕ → ℕ) : Type 0 where
  pub byte : (i x : ℕ) → x < cell_bytes s → i * cell_bytes s + x < length old
      → slice_index new (i * cell_bytes s + x)
      ≡ slice_index old (i * cell_bytes s + x) + (if x % value_bytes s == 0 then amount i else 0)

-- the greatest byte that can be raised by the greatest height
abbrev pub most_low : ℕ
most_low = 55

-- no byte of the cells of a channel, of the spectra from `start` up to `end`, is too high to be raised
abbrev pub AreLow : MakeSpec → List ℕ → ℕ → ℕ → ℕ → Type 0
AreLow s bytes channel start end = (i x : ℕ)
    → x < cell_bytes s → i * cell_bytes s + x < length bytes
    → i % s.channels ≡ channel → start ≤ i / s.channels → i / s.channels < end
    → slice_index bytes (i * cell_bytes s + x) ≤ most_low

-- ---- what cell i grows by, where the cells begin with spectrum `first`

-- a cell alone
abbrev pub by_cell : MakeSpec → ℕ → ℕ → ℕ
by_cell s cell i = if i == cell then s.height else 0

-- the cells of a channel, of the spectra from `start` up to `end`
abbrev pub by_run : MakeSpec → ℕ → ℕ → ℕ → ℕ → ℕ
by_run s channel start end i =
    if (i % s.channels == channel) && (nat_le start (i / s.channels) && nat_lt (i / s.channels) end)
    then s.height else 0

-- the cells of a channel at which a pulse passes, of the spectra before `end`
abbrev pub by_channel : MakeSpec → ℕ → ℕ → ℕ → ℕ → ℕ → ℕ → ℕ
by_channel s channel enters leaves first end i =
    if (i % s.channels == channel)
    && (nat_lt (i / s.channels) end && is_passed s enters leaves (first + i / s.channels))
    then s.height else 0

-- the cells of the channels before `channel` at which a pulse passes
abbrev pub by_train : MakeSpec → ℕ → ℕ → ℕ → ℕ
by_train s channel first i =
    if nat_lt (i % s.channels) channel && is_on_train s (i % s.channels) (first + i / s.channels)
    then s.height else 0
