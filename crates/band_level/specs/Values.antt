-- The values of data bytes.
-- Source: PSRDADA manual, on the data after a header (one spectrum after another). The order of bytes, the sign and the
-- order of the polarisations are this project's profile.
use Rattle.std.specs.Prelude.{ℕ, ◌+◌, ◌*◌, ◌/◌, ◌%◌, ◌==◌, List, length, sum_by, slice_index, if◌then◌else◌}
use Rattle.std.specs.List.{range_with_len}
use Rattle.band_level.specs.declared.format.Format.{Format}

-- how many values a spectrum has: those of each polarisation of each channel
abbrev pub cells : Format → ℕ
cells f = f.channels * f.polarisations

-- how many bytes a spectrum has that was read, and one that was added up
abbrev pub read_bytes : Format → ℕ
read_bytes f = cells f * (f.bits / 8)

abbrev pub spectrum_bytes : Format → ℕ
spectrum_bytes f = f.average * read_bytes f

-- value j of the bytes, without a sign
abbrev pub word_at : Format → List ℕ → ℕ → ℕ
word_at f bytes j =
    if f.bits == 16
    then (if f.high_byte_first
    then 256 * slice_index bytes (2 * j) + slice_index bytes (2 * j + 1)
    else slice_index bytes (2 * j) + 256 * slice_index bytes (2 * j + 1))
    else slice_index bytes j

-- Value j of the bytes; with a sign it is counted from the least one on. Levelling takes the mean of each cell away, so
-- that a number which is added to all of them changes nothing.
abbrev pub value_at : Format → List ℕ → ℕ → ℕ
value_at f bytes j =
    if f.signed
    then (if f.bits == 16
    then (word_at f bytes j + 32768) % 65536
    else (word_at f bytes j + 128) % 256)
    else word_at f bytes j

-- no value of a cell is greater
abbrev pub most_value : Format → ℕ
most_value f = f.average * (if f.bits == 16 then 65535 else 255)

-- the value of cell i of spectrum t: the sum over neighbouring spectra
abbrev pub cell_value : Format → List ℕ → ℕ → ℕ → ℕ
cell_value f bytes t i =
    sum_by (λ k. value_at f bytes ((t * f.average + k) * cells f + i)) (range_with_len 0 f.average)

-- So many spectra, and the value of cell i of spectrum t. What is left over of a spectrum is left out.
pub record Band : Type 0 where
  pub spectra : ℕ
  pub value : ℕ → ℕ → ℕ

abbrev pub band : Format → List ℕ → Band
band f bytes = record {
  spectra = length bytes / spectrum_bytes f;
  value = cell_value f bytes;
}
