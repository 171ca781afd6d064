-- The samples of a filterbank observation.
-- Source: PSRDADA manual, on the data after a header (one spectrum after another). The order of bytes and of channels,
-- the sum of the polarisations, and what stands before the first spectrum are this project's profile.
use Rattle.std.specs.Prelude.{ℕ, ◌+◌, ◌-◌, ◌*◌, ◌/◌, ◌==◌, List, Bool, length, map, sum_by, slice_index, nat_lt, if◌then◌else◌}
use Rattle.std.specs.List.{range_with_len}

-- the value of 8 or 16 bits that begins at a byte, its low byte first
abbrev pub value_at : ℕ → List ℕ → ℕ → ℕ
value_at nbit bytes place =
    if nbit == 16 then slice_index bytes place + 256 * slice_index bytes (place + 1)
    else slice_index bytes place

-- how many bytes a sample has: npol values of nbit bits
abbrev pub sample_bytes : ℕ → ℕ → ℕ
sample_bytes nbit npol = npol * nbit / 8

-- sample i of the bytes: the values of its polarisations, added
abbrev pub sample_at : ℕ → ℕ → List ℕ → ℕ → ℕ
sample_at nbit npol bytes i =
    sum_by (λ q. value_at nbit bytes (i * sample_bytes nbit npol + q * nbit / 8))
    (range_with_len 0 npol)

-- the samples of data bytes, in the order of the bytes; an incomplete last sample is left out
abbrev pub samples_of : ℕ → ℕ → List ℕ → List ℕ
samples_of nbit npol bytes =
    map (λ i. sample_at nbit npol bytes i)
    (range_with_len 0 (length bytes / sample_bytes nbit npol))

-- so many channels, counted from the highest frequency, and so many spectra; `value c t` stands in channel c of
-- spectrum t
pub record Filterbank : Type 0 where
  pub channels : ℕ
  pub spectra : ℕ
  pub value : ℕ → ℕ → ℕ

-- Spectra of n samples each, the highest channel first where frequency falls along a spectrum, else last.
-- An incomplete last spectrum is left out.
abbrev pub filterbank : ℕ → Bool → List ℕ → Filterbank
filterbank n is_falling samples = record {
  channels = n;
  spectra = length samples / n;
  value = λ c t. slice_index samples (t * n + (if is_falling then c else n - 1 - c));
}

-- the sample of channel c that stands d spectra before spectrum s, and 0 before the first spectrum
abbrev pub sample_before : Filterbank → ℕ → ℕ → ℕ → ℕ
sample_before f c s d = if nat_lt s d then 0 else f.value c (s - d)
