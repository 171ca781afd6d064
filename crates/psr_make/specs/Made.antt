-- The observation that is made of a number: its header, its values, and its bytes.
-- Source: PSRDADA manual (the keywords of the header); the observation is this project's choice.
use Rattle.std.specs.Prelude.{◌≡◌, ◌⊎◌, ℕ, ◌+◌, ◌*◌, ◌/◌, ◌%◌, ◌^◌, ◌≤◌, Bool, true, if◌then◌else◌, List, ◌++◌, map, slice_index, codes}
use Rattle.std.specs.Fmt.{decimal}
use Rattle.std.specs.List.{range_with_len}
use Rattle.dada_model.specs.Edges.{most_channels}
use Rattle.dada_model.specs.Bounds.{most_delay}
use Rattle.dada_model.specs.Fields.{header_bytes}
use Rattle.dada_model.specs.Observation.{Observation, edges}
use Rattle.search_model.specs.Paths.{path}
use Rattle.search_model.specs.Samples.{sample_bytes}
use Rattle.psr_make.specs.Draws.{noise}
use Rattle.psr_make.specs.Pulses.{is_passed}
use Rattle.psr_make.specs.declared.spec.MakeSpec.{MakeSpec}

-- each field lies in its range
pub record SpecInRange (s : MakeSpec) : Type 0 where
  pub number : s.number ≤ 9223372036854775807
  pub few_channels : 2 ≤ s.channels
  pub many_channels : s.channels ≤ most_channels
  pub spectra : s.spectra ≤ 1048576
  pub delay : s.delay ≤ most_delay
  pub some_period : 1 ≤ s.period
  pub period : s.period ≤ 1048576
  pub height : s.height ≤ 200
  pub bits : (s.nbit ≡ 8) ⊎ (s.nbit ≡ 16)
  pub polarisations : (s.npol ≡ 1) ⊎ (s.npol ≡ 2)

-- ---- the header

-- the text of the header: a band of 400 MHz around 1382 MHz, where channel 0 of the file is the highest frequency
unfoldable pub made_text : MakeSpec → List ℕ
made_text s =
    codes "HDR_VERSION 1.0\nHDR_SIZE 4096\nINSTRUMENT psr_make\nNCHAN " ++ decimal s.channels
    ++ codes "\nNBIT " ++ decimal s.nbit ++ codes "\nNPOL " ++ decimal s.npol
    ++ codes "\nNDIM 1\nTSAMP 64\nFREQ 1382\nBW -400\n"
    ++ codes "UTC_START 2024-01-02-03:04:05\nOBS_OFFSET 0\n"

-- the observation of that header
abbrev pub made_observation : MakeSpec → Observation
made_observation s = record {
  channels = s.channels;
  nbit = s.nbit;
  npol = s.npol;
  sample_ns = 64000;
  centre_hz = 1382000000;
  width_hz = 400000000;
  is_falling = true;
  obs_offset = 0;
}

-- ---- the values

-- the delay path of the pulses over that band
unfoldable pub made_path : MakeSpec → List ℕ
made_path s = path (edges (made_observation s)) s.channels s.delay

-- a pulse passes channel c at spectrum t
abbrev pub is_on_train : MakeSpec → ℕ → ℕ → Bool
is_on_train s c t = is_passed s (slice_index (made_path s) c) (slice_index (made_path s) (c + 1)) t

-- what the pulses add to the values of cell i, which is that of channel i % channels at spectrum i / channels
unfoldable pub pulse_height : MakeSpec → ℕ → ℕ
pulse_height s i = if is_on_train s (i % s.channels) (i / s.channels) then s.height else 0

-- value v, of which each cell has one for each polarisation: the noise of draw v, and what the pulses add
abbrev pub made_value : MakeSpec → ℕ → ℕ
made_value s v = noise s.number v + pulse_height s (v / s.npol)

-- ---- the bytes

-- the bytes of a value, of a cell and of a spectrum
abbrev pub value_bytes : MakeSpec → ℕ
value_bytes s = s.nbit / 8

abbrev pub cell_bytes : MakeSpec → ℕ
cell_bytes s = sample_bytes s.nbit s.npol

abbrev pub spectrum_bytes : MakeSpec → ℕ
spectrum_bytes s = s.channels * cell_bytes s

-- byte k of a number, where byte 0 is the lowest
abbrev pub byte_of : ℕ → ℕ → ℕ
byte_of number k = number / 256 ^ k % 256

-- data byte j: a value's bytes follow one another from the lowest on
unfoldable pub data_byte : MakeSpec → ℕ → ℕ
data_byte s j = byte_of (made_value s (j / value_bytes s)) (j % value_bytes s)

-- `count` data bytes from byte `start` on
unfoldable pub data_part : MakeSpec → ℕ → ℕ → List ℕ
data_part s start count = map (data_byte s) (range_with_len start count)

abbrev pub made_data : MakeSpec → List ℕ
made_data s = data_part s 0 (s.spectra * spectrum_bytes s)

-- the whole file: the header's text, padded with NUL to 4096 bytes, and the data
abbrev pub made_header : MakeSpec → List ℕ
made_header s = header_bytes (record { size = 4096; text = made_text s })

unfoldable pub made_file : MakeSpec → List ℕ
made_file s = made_header s ++ made_data s
