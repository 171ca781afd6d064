-- The cells of the rows, and what always holds of an unpacker.
-- Source: this project's choice.
use Rattle.std.specs.Prelude.{ℕ, ◌+◌, ◌-◌, ◌*◌, ◌≡◌, ◌<◌, ◌≤◌, ◌/◌, ◌%◌, ◌⊎◌, Bool, List, [], length, slice_index, get_or, if◌then◌else◌}
use Rattle.search_model.specs.Samples.{sample_bytes, sample_at}
use Rattle.spectra_rows.specs.declared.tile.TheConstants.{CHANNELS}
use Rattle.spectra_rows.specs.Unpacking.{AreValues, Keeps}

-- where a channel, counted from the highest frequency, stands in a spectrum
abbrev pub channel_place : ℕ → Bool → ℕ → ℕ
channel_place channels is_falling c = if is_falling then c else channels - 1 - c

-- The cell of place p of spectrum t is value (row p) * chunk + t of the rows. The cells of the places from `lo` up to,
-- but without, `hi` and of the spectra from `from` up to, but without, `to` have these values; those of the places
-- before `lo` stay, and so do all cells of other spectra.
pub record WritesCells (old new : List ℕ) (row : ℕ → ℕ) (channels chunk lo hi from to : ℕ)
    (value : ℕ → ℕ → ℕ) : Type 0 where
  pub written : (p t : ℕ) → lo ≤ p → p < hi → from ≤ t → t < to
      → slice_index new (row p * chunk + t) ≡ value p t
  pub lower : (p t : ℕ) → p < lo → t < chunk
      → slice_index new (row p * chunk + t) ≡ slice_index old (row p * chunk + t)
  pub beside : (p t : ℕ) → p < channels → t < chunk → (t < from) ⊎ (to ≤ t)
      → slice_index new (row p * chunk + t) ≡ slice_index old (row p * chunk + t)

-- the places from `place` up to, but without, `end` are places of a spectrum, no more than a tile has
pub record AreInTile (channels place end : ℕ) : Type 0 where
  pub order : place ≤ end
  pub few : end ≤ place + CHANNELS
  pub inside : end ≤ channels

-- the sample of spectrum t at a place of the spectrum
abbrev pub cell : ℕ → ℕ → ℕ → List ℕ → ℕ → ℕ → ℕ
cell channels nbit npol bytes place t = sample_at nbit npol bytes (t * channels + place)

-- Row c begins at c * chunk. Behind the first `ready` places of the rows stand the samples of the first `count` spectra
-- of the bytes; those places stay.
pub record Unpacks (channels : ℕ) (is_falling : Bool) (nbit npol chunk : ℕ) (bytes old new : List ℕ)
    (ready count : ℕ) : Type 0 where
  pub before : (c t : ℕ) → c < channels → t < ready
      → slice_index new (c * chunk + t) ≡ slice_index old (c * chunk + t)
  pub behind : (c t : ℕ) → c < channels → t < count
      → slice_index new (c * chunk + (ready + t))
      ≡ cell channels nbit npol bytes (channel_place channels is_falling c) t

-- of a list the n values from `at` on are 0, and all others stay
pub record Silences (old new : List ℕ) (at n : ℕ) : Type 0 where
  pub long : length new ≡ length old
  pub silent : (k : ℕ) → at ≤ k → k < at + n → slice_index new k ≡ 0
  pub others : (k : ℕ) → (k < at) ⊎ (at + n ≤ k) → slice_index new k ≡ slice_index old k

-- what stands behind is as large as it has to be
pub record RowsAreSound (channels nbit npol chunk : ℕ) (in_bytes : Bool)
    (spectrum filled ready : ℕ) (held rows : List ℕ) : Type 0 where
  pub some_channels : 2 ≤ channels
  pub most_channels : channels ≤ 4096
  pub some_spectra : 1 ≤ chunk
  pub most_spectra : chunk ≤ 65536
  pub values : AreValues nbit npol
  pub kept : Keeps in_bytes nbit npol
  pub spectrum_is : spectrum ≡ channels * sample_bytes nbit npol
  pub some_bytes : 0 < spectrum
  pub held_room : length held ≡ spectrum
  pub rows_room : length rows ≡ channels * chunk
  pub short : filled < spectrum
  pub within : ready * spectrum + filled ≤ chunk * spectrum

-- value k of the lower halves (h = 0), or of the upper ones (h = 1), of vectors of 32 values, these halves in a row
abbrev pub lane : ℕ → List (List ℕ) → ℕ → ℕ
lane h vectors k = slice_index (get_or vectors (k / 16) []) (16 * h + k % 16)
