-- Worked values of the definitions, computed.
use Rattle.std.specs.Prelude.{◌≡◌, ℕ, true, List, [], ◌∷◌, ◌++◌, map, Some, None, Ok, Err, pos, neg_ℤ, codes, refl}
use Rattle.dada_model.specs.Number.{number_value}
use Rattle.dada_model.specs.Fields.{is_white, without_comment, words_of, Field, fields_of, value_of}
use Rattle.dada_model.specs.declared.key.Key.TheVariants.{Nchan, Nbit, Tsamp}
use Rattle.dada_model.specs.Observation.{Observation, Missing, BadNumber, OutOfProfile, TooNarrow, signed_edge, edge, edges, dispersion_span, dm, max_sample, observation_of, observation_in, number_of, refusal_at, refusals}

minus_two_hundred : number_value 6 (codes "-200") ≡ Some (neg_ℤ (pos 200000000))
unfolding number_value
minus_two_hundred = refl

half : number_value 3 (codes ".5") ≡ Some (pos 500)
unfolding number_value
half = refl

exponent : number_value 3 (codes "6.4e1") ≡ None
unfolding number_value
exponent = refl

abbrev lines : List (List ℕ) → List ℕ
lines [] = []
lines (line ∷ more) = line ++ (10 ∷ lines more)

-- a comment, a repeated key, a keyword alone
small : List ℕ
small =
    lines (codes "# a header" ∷ codes "NCHAN 2 channels" ∷ codes "BW" ∷ codes "  NCHAN  3#4" ∷ [])

small_fields : fields_of small
    ≡ record { keyword = codes "NCHAN"; value = codes "2" }
    ∷ record { keyword = codes "NCHAN"; value = codes "3" } ∷ []
unfolding fields_of words_of without_comment is_white small
small_fields = refl

small_value : value_of (codes "NCHAN") (fields_of small) ≡ Some (codes "2")
unfolding fields_of words_of without_comment is_white value_of small
small_value = refl

fields : List Field
fields = fields_of (lines
    (codes "HDR_SIZE 4096" ∷ codes "NCHAN 2" ∷ codes "NBIT 8" ∷ codes "TSAMP 64" ∷ codes "FREQ 1400"
    ∷ codes "BW -200" ∷ []))

-- two channels of 8 bits, the highest first
abbrev pub two_channels : Observation
two_channels = record {
  channels = 2;
  nbit = 8;
  npol = 1;
  sample_ns = 64000;
  centre_hz = 1400000000;
  width_hz = 200000000;
  is_falling = true;
  obs_offset = 0;
}

accepted : observation_of fields ≡ Ok two_channels
unfolding fields fields_of words_of without_comment is_white value_of number_value number_of
    observation_in signed_edge edge refusal_at refusals observation_of
accepted = refl

three_edges : edges two_channels ≡ 1500000 ∷ 1400000 ∷ 1300000 ∷ []
unfolding edges edge signed_edge
three_edges = refl

dm_of_one : dm two_channels 1 ≡ 104
unfolding dm dispersion_span edge signed_edge
dm_of_one = refl

abbrev thousand_channels : Observation
thousand_channels = record {
  channels = 1024;
  nbit = 16;
  npol = 2;
  sample_ns = 64000;
  centre_hz =
      1382000000;
  width_hz = 400000000;
  is_falling = true;
  obs_offset = 0;
}

dm_of_many : dm thousand_channels 512 ≡ 24975
unfolding dm dispersion_span edge signed_edge
dm_of_many = refl

max_samples : map max_sample (two_channels ∷ thousand_channels ∷ []) ≡ 255 ∷ 131070 ∷ []
max_samples = refl

-- ---- refusals: the same header with other values

abbrev with_lines : List (List ℕ) → List Field
with_lines first = fields_of
    (lines (first
    ++ (codes "NCHAN 2" ∷ codes "NBIT 8" ∷ codes "TSAMP 64" ∷ codes "FREQ 1400" ∷ codes "BW -200"
    ∷ [])))

refused_profile : observation_of (with_lines (codes "NBIT 4" ∷ codes "TSAMP 6.4e1" ∷ []))
    ≡ Err (OutOfProfile Nbit)
unfolding fields_of words_of without_comment is_white value_of number_value number_of observation_in
    signed_edge refusal_at refusals observation_of
refused_profile = refl

refused_number : observation_of (with_lines (codes "TSAMP 6.4e1" ∷ [])) ≡ Err (BadNumber Tsamp)
unfolding fields_of words_of without_comment is_white value_of number_value number_of observation_in
    signed_edge refusal_at refusals observation_of
refused_number = refl

refused_width : observation_of (with_lines (codes "BW -0.001999" ∷ [])) ≡ Err (TooNarrow 1999 2)
unfolding fields_of words_of without_comment is_white value_of number_value number_of observation_in
    signed_edge refusal_at refusals observation_of
refused_width = refl

missing : observation_of [] ≡ Err (Missing Nchan)
unfolding value_of number_value number_of observation_in signed_edge refusal_at refusals
    observation_of
missing = refl

-- digits past the last decimal are dropped, and 16 bits and two polarisations are taken
abbrev wide_channels : Observation
wide_channels = record two_channels { nbit = 16; npol = 2 }

accepted_wide : observation_of
    (with_lines (codes "NBIT 16" ∷ codes "NPOL 2" ∷ codes "TSAMP 64.0009" ∷ []))
    ≡ Ok wide_channels
unfolding fields_of words_of without_comment is_white value_of number_value number_of observation_in
    signed_edge refusal_at refusals observation_of
accepted_wide = refl
