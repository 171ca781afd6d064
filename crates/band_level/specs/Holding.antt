-- The spectra of a stretch, as they are held: sums of neighbouring spectra, and bytes behind them.
-- Source: this project's choice.
use Rattle.std.specs.Prelude.{ℕ, ◌≡◌, ◌+◌, ◌-◌, ◌*◌, ◌<◌, ◌≤◌, ◌⊎◌, ◌++◌, false, List, [], length, drop, slice_index, nat_lt, if◌then◌else◌}
use Rattle.band_level.specs.declared.format.Format.{Format}
use Rattle.band_level.specs.declared.sums.Sums.{Sums}
use Rattle.band_level.specs.Values.{cells, spectrum_bytes, cell_value, most_value}
use Rattle.band_level.specs.Ranges.{FormatInRange}

-- sums of 16 bits or of 32, as numbers
abbrev pub sums_of : Sums → List ℕ
sums_of s = if s.is_wide then s.wide.items else s.narrow.items

-- The first `count` spectra are held as the sums of their cells, one spectrum after another. What came behind them is
-- held as bytes, of which there may be `limit`. In all there is room for spectra of `room` bytes.
pub record Holding : Type 0 where
  pub format : Format
  pub room : ℕ
  pub limit : ℕ
  pub count : ℕ
  pub sums : List ℕ
  pub bytes : List ℕ

-- how many bytes came
abbrev pub held_bytes : Format → Holding → ℕ
held_bytes f h = h.count * spectrum_bytes f + length h.bytes

-- the value of cell i of spectrum t
abbrev pub held_value : Format → Holding → ℕ → ℕ → ℕ
held_value f h t i =
    if nat_lt t h.count then slice_index h.sums (t * cells f + i)
    else cell_value f h.bytes (t - h.count) i

-- these bytes came
pub record Holds (f : Format) (h : Holding) (bytes : List ℕ) : Type 0 where
  pub size : held_bytes f h ≡ length bytes
  pub sums : (t i : ℕ) → t < h.count → i < cells f
      → slice_index h.sums (t * cells f + i) ≡ cell_value f bytes t i
  pub rest : h.bytes ≡ drop (h.count * spectrum_bytes f) bytes

-- a piece of bytes came behind all others
pub record Puts (f : Format) (h m : Holding) (piece : List ℕ) : Type 0 where
  pub format : m.format ≡ h.format
  pub room : m.room ≡ h.room
  pub size : held_bytes f m ≡ held_bytes f h + length piece
  pub holds : (bytes : List ℕ) → Holds f h bytes → Holds f m (bytes ++ piece)

-- nothing is held any more
abbrev pub cleared : Holding → Holding
cleared h = record h { count = 0; bytes = [] }

-- the first n spectra, which are read so, are held
pub record HasSpectra (f : Format) (h : Holding) (n : ℕ) : Type 0 where
  pub same : h.format ≡ f
  pub inside : n * spectrum_bytes f ≤ held_bytes f h

-- a row is written from a place on
pub record WritesRow (at : ℕ) (values old new : List ℕ) : Type 0 where
  pub long : length new ≡ length old
  pub row : (i : ℕ) → i < length values → slice_index new (at + i) ≡ slice_index values i
  pub before : (k : ℕ) → k < at → slice_index new k ≡ slice_index old k

-- the bytes of a spectrum are there, and become its sums
pub record AddsUp (h m : Holding) : Type 0 where
  pub same : m ≡ record h { count = h.count + 1; sums = m.sums; bytes = [] }
  pub whole : length h.bytes ≡ spectrum_bytes h.format
  pub before : (k : ℕ) → k < h.count * cells h.format → slice_index m.sums k ≡ slice_index h.sums k
  pub row : (i : ℕ) → i < cells h.format
      → slice_index m.sums (h.count * cells h.format + i) ≡ cell_value h.format h.bytes 0 i

-- There is room for the bytes of all spectra; or for those of one, and the sums of all.
abbrev pub IsRoomFor : Format → ℕ → ℕ → ℕ → ℕ → Type 0
IsRoomFor f spectra count bytes sums =
    ((bytes ≡ spectra * spectrum_bytes f) × (count ≡ 0))
    ⊎ ((bytes ≡ spectrum_bytes f) × (sums ≡ spectra * cells f))

-- what always holds
pub record HeldFits (f : Format) (spectra spectrum room count : ℕ) (sums : Sums) (bytes : List ℕ)
    (filled : ℕ) (row : List ℕ) : Type 0 where
  pub in_range : FormatInRange f
  pub spectrum_is : spectrum ≡ spectrum_bytes f
  pub room_is : room ≡ spectra * spectrum
  pub filled_in : filled ≤ length bytes
  pub inside : count * spectrum + filled ≤ room
  pub row_long : length row ≡ cells f
  pub small : (k : ℕ) → k < count * cells f → slice_index (sums_of sums) k ≤ most_value f
  pub narrow : sums.is_wide ≡ false → f.bits ≡ 8
  pub kind : IsRoomFor f spectra count (length bytes) (length (sums_of sums))
