-- The observation of a header: which fields are read, in which units, and what is refused first (keywords
-- of the PSRDADA manual; decimals, defaults and ranges are this project's profile).
use Rattle.std.specs.Prelude.{ℕ, ◌+◌, ◌-◌, ◌*◌, ◌/◌, ◌^◌, Bool, ◌&&◌, ◌||◌, not, nat_lt, ◌==◌, if◌then◌else◌, List, [], ◌∷◌, ◌++◌, map, filter_map, Option, Some, None, ok_or, Result, Ok, Err, ℤ, pos, ◌-ℤ◌, unsigned_abs, int_le, int_lt, codes}
use Rattle.std.specs.List.{range_with_len}
use Rattle.std.specs.Result.{result_unwrap_or}
use Rattle.std.specs.Int.{int_div_euclid}
use Rattle.dada_model.specs.declared.key.Key.{Key}
use Rattle.dada_model.specs.declared.key.Key.TheVariants.{Nchan, Nbit, Npol, Ndim, Tsamp, Freq, Bw, ObsOffset}
use Rattle.dada_model.specs.Edges.{top_khz, most_centre_hz, most_channels}
use Rattle.dada_model.specs.Number.{number_value}
use Rattle.dada_model.specs.Fields.{Field, value_of}

-- ---- the table of the keys, in the order in which they are judged

abbrev pub keys : List Key
keys = Nchan ∷ Nbit ∷ Npol ∷ Ndim ∷ Tsamp ∷ Freq ∷ Bw ∷ ObsOffset ∷ []

abbrev pub keyword : Key → List ℕ
keyword Nchan = codes "NCHAN"
keyword Nbit = codes "NBIT"
keyword Npol = codes "NPOL"
keyword Ndim = codes "NDIM"
keyword Tsamp = codes "TSAMP"
keyword Freq = codes "FREQ"
keyword Bw = codes "BW"
keyword ObsOffset = codes "OBS_OFFSET"

-- TSAMP is in microseconds and read in ns; FREQ and BW are in MHz and read in Hz
abbrev pub decimals : Key → ℕ
decimals Tsamp = 3
decimals Freq = 6
decimals Bw = 6
decimals _ = 0

-- a key without a default is required
abbrev pub default : Key → Option ℤ
default Npol = Some (pos 1)
default Ndim = Some (pos 1)
default ObsOffset = Some (pos 0)
default _ = None

-- why a header has no observation; `TooNarrow` has the absolute value of BW in Hz, and NCHAN
pub data Refusal : Type 0 where
  Missing : Key → Refusal
  BadNumber : Key → Refusal
  OutOfProfile : Key → Refusal
  OutOfRange : Key → Refusal
  TooNarrow : ℕ → ℕ → Refusal

-- what a value outside its row is called
abbrev pub outside : Key → Refusal
outside Nbit = OutOfProfile Nbit
outside Npol = OutOfProfile Npol
outside Ndim = OutOfProfile Ndim
outside key = OutOfRange key

-- ---- the numbers of a header

abbrev pub number_or_default : Key → Option (List ℕ) → Result ℤ Refusal
number_or_default key None = ok_or (default key) (Missing key)
number_or_default key (Some text) = ok_or (number_value (decimals key) text) (BadNumber key)

-- the number of a key: that of its first field, or its default
unfoldable pub number_of : List Field → Key → Result ℤ Refusal
number_of fields key = number_or_default key (value_of (keyword key) fields)

-- an observation, in the units of the table: a sample has npol values of nbit bits each; the bandwidth is the absolute
-- value of BW, and falling says that BW is negative, so that channel 0 of the file is the highest frequency
pub record Observation : Type 0 where
  pub channels : ℕ
  pub nbit : ℕ
  pub npol : ℕ
  pub sample_ns : ℕ
  pub centre_hz : ℕ
  pub width_hz : ℕ
  pub is_falling : Bool
  pub obs_offset : ℕ

-- the numbers as an observation; it counts only where none is refused
unfoldable pub observation_in : List Field → Observation
observation_in fields =
    let number = λ (key : Key). result_unwrap_or (number_of fields key) (pos 0) in
    record {
      channels = unsigned_abs (number Nchan);
      nbit = unsigned_abs (number Nbit);
      npol = unsigned_abs (number Npol);
      sample_ns = unsigned_abs (number Tsamp);
      centre_hz = unsigned_abs (number Freq);
      width_hz = unsigned_abs (number Bw);
      is_falling = int_lt (number Bw) (pos 0);
      obs_offset = unsigned_abs (number ObsOffset);
    }

-- the greatest sample: the values of all polarisations are added
abbrev pub max_sample : Observation → ℕ
max_sample o = o.npol * (2 ^ o.nbit - 1)

-- ---- the edges of the channels

-- the edge k in kHz, over numbers with sign: 0 is the top of the band, and the number of channels its foot
unfoldable pub signed_edge : Observation → ℕ → ℤ
signed_edge o k =
    int_div_euclid
    (pos (2 * o.centre_hz * o.channels + o.width_hz * o.channels) -ℤ pos (2 * o.width_hz * k))
    (pos (2000 * o.channels))

-- the same of an accepted observation, where each edge is positive
unfoldable pub edge : Observation → ℕ → ℕ
edge o k = unsigned_abs (signed_edge o k)

-- the edges from the top of the band down
unfoldable pub edges : Observation → List ℕ
edges o = map (edge o) (range_with_len 0 (o.channels + 1))

-- ---- the first refusal

abbrev pub is_within : ℤ → ℤ → ℤ → Bool
is_within low high z = int_le low z && int_le z high

-- the last column of the table: whether a value lies in its row. BW is judged by the edges of the band.
abbrev pub is_in_row : Observation → Key → ℤ → Bool
is_in_row o Nchan z = is_within (pos 2) (pos most_channels) z
is_in_row o Nbit z = is_within (pos 8) (pos 8) z || is_within (pos 16) (pos 16) z
is_in_row o Npol z = is_within (pos 1) (pos 2) z
is_in_row o Ndim z = is_within (pos 1) (pos 1) z
is_in_row o Tsamp z = is_within (pos 1) (pos (2 ^ 30)) z
is_in_row o Freq z = is_within (pos 1000) (pos most_centre_hz) z
is_in_row o Bw z = not (unsigned_abs z == 0) &&
    (int_le (pos 1) (signed_edge o o.channels) && int_le (signed_edge o 0) (pos top_khz))
is_in_row o ObsOffset z = is_within (pos 0) (pos (10 ^ 15)) z

abbrev pub refusal_of_number : Observation → Key → Result ℤ Refusal → Option Refusal
refusal_of_number o key (Err refusal) = Some refusal
refusal_of_number o key (Ok z) = if is_in_row o key z then None else Some (outside key)

-- what is refused at one key: that it is missing, then that it is no number, then that it lies outside its row
unfoldable pub refusal_at : List Field → Key → Option Refusal
refusal_at fields key = refusal_of_number (observation_in fields) key (number_of fields key)

-- last comes a band of less than 1 kHz for each channel
abbrev pub too_narrow : Observation → List Refusal
too_narrow o =
    if nat_lt o.width_hz (1000 * o.channels) then TooNarrow o.width_hz o.channels ∷ [] else []

-- all refusals, in their order
unfoldable pub refusals : List Field → List Refusal
refusals fields = filter_map (refusal_at fields) keys ++ too_narrow (observation_in fields)

abbrev pub unless_refused : Observation → List Refusal → Result Observation Refusal
unless_refused o [] = Ok o
unless_refused o (first ∷ more) = Err first

-- the observation of a header's fields, or its first refusal
unfoldable pub observation_of : List Field → Result Observation Refusal
observation_of fields = unless_refused (observation_in fields) (refusals fields)

-- ---- the dispersion measure

abbrev pub square : ℕ → ℕ
square x = x * x

-- 1 / (1/F_n^2 - 1/F_0^2) in kHz^2, where F_0 is the top and F_n the foot of the band, rounded down
unfoldable pub dispersion_span : Observation → ℕ
dispersion_span o =
    let top = square (edge o 0) in
    let foot = square (edge o o.channels) in
    top * foot / (top - foot)

-- the dispersion measure, in thousandths of pc/cm^3, of a delay of d samples across the band (the
-- dispersion law, as in Zackay & Ofek, ApJ 835:11, 2017, with the constant 2.41 * 10^-4
-- pc/cm^3 for each MHz^2 s; the rounding is this project's profile)
unfoldable pub dm : Observation → ℕ → ℕ
dm o d = d * o.sample_ns * 241 * dispersion_span o / 10 ^ 18
