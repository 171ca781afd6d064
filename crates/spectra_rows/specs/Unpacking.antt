-- What contracts see of an unpacker, and the data bytes that it stands for.
-- Source: this project's choice.
use Rattle.std.specs.Prelude.{ℕ, ◌+◌, ◌*◌, ◌≡◌, ◌≢◌, ◌<◌, ◌≤◌, ◌⊎◌, ◌++◌, Bool, true, false, List, [], length, drop, replicate, slice_index}
use Rattle.search_model.specs.Samples.{Filterbank, sample_bytes, samples_of, filterbank}
use Rattle.search_model.specs.Masks.{kept_of}

-- Spectra of so many channels, of which at most `chunk` are held: `whole` spectra as samples in
-- `rows`, a row of `chunk` places for each channel, and behind them the bytes of a part of a
-- spectrum. The rows are of bytes, or of samples of 32 bits.
pub record Unpacking : Type 0 where
  pub channels : ℕ
  pub is_falling : Bool
  pub nbit : ℕ
  pub npol : ℕ
  pub chunk : ℕ
  pub in_bytes : Bool
  pub whole : ℕ
  pub part : List ℕ
  pub rows : List ℕ

-- how many bytes a spectrum has
abbrev pub spectrum_bytes : Unpacking → ℕ
spectrum_bytes u = u.channels * sample_bytes u.nbit u.npol

-- how many bytes are held
abbrev pub held_bytes : Unpacking → ℕ
held_bytes u = u.whole * spectrum_bytes u + length u.part

-- data bytes, as a filterbank
abbrev pub unpacked : Unpacking → List ℕ → Filterbank
unpacked u bytes = filterbank u.channels u.is_falling (samples_of u.nbit u.npol bytes)

-- these bytes were taken since the opening, and the first `gone` of their spectra given up
pub record StandsForBytes (u : Unpacking) (bytes : List ℕ) (gone : ℕ) : Type 0 where
  pub size : length bytes ≡ (gone + u.whole) * spectrum_bytes u + length u.part
  pub short : length u.part < spectrum_bytes u
  pub part : u.part ≡ drop ((gone + u.whole) * spectrum_bytes u) bytes
  pub rows : (c t : ℕ) → c < u.channels → t < u.whole
      → slice_index u.rows (c * u.chunk + t) ≡ (unpacked u bytes).value c (gone + t)

-- these bytes were taken since the opening, and the first `gone` of their spectra given up; the
-- rows may have any values
pub record HoldsBytes (u : Unpacking) (bytes : List ℕ) (gone : ℕ) : Type 0 where
  pub size : length bytes ≡ (gone + u.whole) * spectrum_bytes u + length u.part
  pub short : length u.part < spectrum_bytes u
  pub part : u.part ≡ drop ((gone + u.whole) * spectrum_bytes u) bytes

-- these bytes were taken since the opening, and the first `gone` of their spectra given up; the
-- rows have the samples of the channels that are kept, and 0 for all others
pub record StandsForKept (kept : ℕ → Bool) (u : Unpacking) (bytes : List ℕ) (gone : ℕ)
    : Type 0 where
  pub holds : HoldsBytes u bytes gone
  pub rows : (c t : ℕ) → c < u.channels → t < u.whole
      → slice_index u.rows (c * u.chunk + t)
      ≡ (kept_of kept (unpacked u bytes)).value c (gone + t)

-- v is u, but that the row of this channel is 0 in the spectra that are held
pub record IsWithout (channel : ℕ) (u v : Unpacking) : Type 0 where
  pub same : v ≡ record u { rows = v.rows }
  pub long : length v.rows ≡ length u.rows
  pub silent : (t : ℕ) → t < u.whole → slice_index v.rows (channel * u.chunk + t) ≡ 0
  pub others : (k : ℕ) → (k < channel * u.chunk) ⊎ (channel * u.chunk + u.whole ≤ k)
      → slice_index v.rows k ≡ slice_index u.rows k

-- one of the `channels` channels is no longer kept, all others are as before
pub record LeavesOut (channels channel : ℕ) (kept less : ℕ → Bool) : Type 0 where
  pub channel_is : less channel ≡ false
  pub others : (c : ℕ) → c < channels → c ≢ channel → less c ≡ kept c

-- both were opened for such spectra, and for rows of one kind
pub record OpenedAlike (u v : Unpacking) : Type 0 where
  pub channels : u.channels ≡ v.channels
  pub is_falling : u.is_falling ≡ v.is_falling
  pub nbit : u.nbit ≡ v.nbit
  pub npol : u.npol ≡ v.npol
  pub chunk : u.chunk ≡ v.chunk
  pub in_bytes : u.in_bytes ≡ v.in_bytes

-- v is u with a piece of bytes behind all that was taken
pub record Takes (u v : Unpacking) (piece : List ℕ) : Type 0 where
  pub alike : OpenedAlike v u
  pub held : held_bytes v ≡ held_bytes u + length piece
  pub pieces : (before : List ℕ) (gone : ℕ) → StandsForBytes u before gone
      → StandsForBytes v (before ++ piece) gone

-- opened for such spectra, with no byte pushed
abbrev pub unpacking_of : ℕ → Bool → ℕ → ℕ → ℕ → Unpacking
unpacking_of channels is_falling nbit npol chunk = record {
  channels = channels;
  is_falling = is_falling;
  nbit = nbit;
  npol = npol;
  chunk = chunk;
  in_bytes = false;
  whole = 0;
  part = [];
  rows = replicate (channels * chunk) 0;
}

-- opened for spectra of bytes, of which the rows are rows of bytes
abbrev pub byte_unpacking_of : ℕ → Bool → ℕ → Unpacking
byte_unpacking_of channels is_falling chunk =
    record (unpacking_of channels is_falling 8 1 chunk) { in_bytes = true }

-- values of 8 or 16 bits, of one polarisation or two
pub record AreValues (nbit npol : ℕ) : Type 0 where
  pub bits : (nbit ≡ 8) ⊎ (nbit ≡ 16)
  pub polarisations : (npol ≡ 1) ⊎ (npol ≡ 2)

-- rows of bytes keep samples of 8 bits and one polarisation, and rows of 32 bits all samples
abbrev pub Keeps : Bool → ℕ → ℕ → Type 0
Keeps true nbit npol = (nbit ≡ 8) × (npol ≡ 1)
Keeps false nbit npol = AreValues nbit npol
