-- What contracts see of a leveller, and the bytes that it stands for.
-- Source: this project's choice.
use Rattle.std.specs.Prelude.{ℕ, ◌≡◌, ◌+◌, ◌-◌, ◌*◌, ◌%◌, ◌<◌, ◌≤◌, ◌⊎◌, ◌++◌, Bool, true, false, List, length, drop, slice_index}
use Rattle.band_level.specs.Values.{Band, band, cells, spectrum_bytes}
use Rattle.band_level.specs.Holding.{Holding, Holds, held_bytes}
use Rattle.band_level.specs.Scales.{unit}
use Rattle.band_level.specs.Rows.{HoldScales}
use Rattle.band_level.specs.Levelled.{Task, scale_by, stretch_for, fine_before, first_levels, levelled}

-- A stretch, as what is held of it. Its spectra from `first` up to, but without, `last` are to be levelled next:
-- none until the stretch is whole, or the data have ended. `piece` has the bytes that were levelled last.
pub record Levelling : Type 0 where
  pub task : Task
  pub held : Holding
  pub first : ℕ
  pub last : ℕ
  pub is_scaled : Bool
  pub has_ended : Bool
  pub gains : List ℕ
  pub bases : List ℕ
  pub lifts : List ℕ
  pub fractions : List ℕ
  pub piece : List ℕ

-- how many spectra are to be levelled next
abbrev pub pending : Levelling → ℕ
pending l = l.last - l.first

abbrev pub band_of : Levelling → List ℕ → Band
band_of l bytes = band l.task.format bytes

-- the stretch isn't whole: no spectrum is to be levelled, and the scales are those of the stretch before
pub record Waits (l : Levelling) (start stretch : ℕ) : Type 0 where
  pub goes_on : l.has_ended ≡ false
  pub first : l.first ≡ 0
  pub last : l.last ≡ 0
  pub short : held_bytes l.task.format l.held
      < l.task.plan.spectra * spectrum_bytes l.task.format
  pub scaled : l.is_scaled ≡ true → start ≡ (stretch + 1) * l.task.plan.spectra
  pub begins : l.is_scaled ≡ false → start ≡ 0

-- the stretch is whole, and the scales are its own
pub record IsWhole (l : Levelling) (start stretch : ℕ) : Type 0 where
  pub goes_on : l.has_ended ≡ false
  pub last : l.last ≡ l.task.plan.spectra
  pub some : l.first < l.last
  pub long : held_bytes l.task.format l.held
      ≡ l.task.plan.spectra * spectrum_bytes l.task.format
  pub scaled : l.is_scaled ≡ true
  pub begins : start ≡ stretch * l.task.plan.spectra

-- the data have ended, and the scales are those for all spectra that are held
pub record Ends (l : Levelling) (bytes : List ℕ) (start stretch : ℕ) : Type 0 where
  pub ended : l.has_ended ≡ true
  pub last : start + l.last ≡ (band_of l bytes).spectra
  pub scaled : 0 < l.last → l.is_scaled ≡ true
  pub here : (t : ℕ) → start ≤ t → t < start + l.last
      → stretch_for l.task (band_of l bytes) t ≡ stretch

-- These bytes were taken since the opening, and those from spectrum `start` on are held. What each cell has carried on is
-- that of the spectra before those to be levelled.
pub record IsAt (l : Levelling) (bytes : List ℕ) (start : ℕ) : Type 0 where
  pub size : start * spectrum_bytes l.task.format + held_bytes l.task.format l.held
      ≡ length bytes
  pub held : Holds l.task.format l.held (drop (start * spectrum_bytes l.task.format) bytes)
  pub carried : (i : ℕ) → i < cells l.task.format → slice_index l.fractions i
      ≡ fine_before l.task (band_of l bytes) i (start + l.first) % unit

-- and the scales, once there are some, are those of a stretch
pub record StandsFor (l : Levelling) (bytes : List ℕ) (start stretch : ℕ) : Type 0 where
  pub place : IsAt l bytes start
  pub order : l.first ≤ l.last
  pub scales : l.is_scaled ≡ true → HoldScales (cells l.task.format)
      (scale_by l.task (band_of l bytes) stretch) l.gains l.bases l.lifts
  pub stage : Waits l start stretch ⊎ (IsWhole l start stretch ⊎ Ends l bytes start stretch)

-- These bytes were taken, and these were made of them.
abbrev pub Levels : Levelling → List ℕ → List ℕ → Type 0
Levels l bytes out = (start : ℕ) × (stretch : ℕ) × (StandsFor l bytes start stretch)
    × (out ≡ first_levels l.task (band_of l bytes) (start + l.first))

-- m is l with a piece of bytes behind all that was taken
pub record Takes (l m : Levelling) (piece : List ℕ) : Type 0 where
  pub task : m.task ≡ l.task
  pub ended : m.has_ended ≡ l.has_ended
  pub levels : (bytes out : List ℕ) → Levels l bytes out → Levels m (bytes ++ piece) out

-- m is l with the next spectra levelled: their bytes are the piece
pub record Gives (l m : Levelling) : Type 0 where
  pub task : m.task ≡ l.task
  pub ended : m.has_ended ≡ l.has_ended
  pub fewer : pending m < pending l
  pub levels : (bytes out : List ℕ) → Levels l bytes out → Levels m bytes (out ++ m.piece)

-- m is l, once no more bytes come
pub record EndsAs (l m : Levelling) : Type 0 where
  pub task : m.task ≡ l.task
  pub ended : m.has_ended ≡ true
  pub levels : (bytes out : List ℕ) → Levels l bytes out → Levels m bytes out

-- once the data have ended and nothing is to be levelled, all that was taken is levelled
abbrev pub IsDone : Levelling → Type 0
IsDone l = (bytes out : List ℕ) → Levels l bytes out → out ≡ levelled l.task bytes
