-- Worked values of the definitions, computed.
use Rattle.std.specs.Prelude.{◌≡◌, ℕ, true, false, Bool, List, [], ◌∷◌, map, slice_index_or, Option, Some, None, refl}
use Rattle.band_level.specs.Scales.{root}
use Rattle.band_level.specs.declared.plan.Plan.{Plan}
use Rattle.band_level.specs.Finished.{kept_before, kept_sum, finished}
use Rattle.band_level.specs.Levelled.{Task, levelled, fine, fine_before, spectrum_levels, first_levels}
use Rattle.band_level.specs.Moments.{near_values}

roots : map root (0 ∷ 1 ∷ 3 ∷ 4 ∷ 24 ∷ 25 ∷ 120 ∷ []) ≡ 0 ∷ 1 ∷ 1 ∷ 2 ∷ 4 ∷ 5 ∷ 10 ∷ []
unfolding root
roots = refl

-- of twenty values the last lies outside of four deviations
burst : near_values (3 ∷ 4 ∷ 3 ∷ 4 ∷ 3 ∷ 4 ∷ 3 ∷ 4 ∷ 3 ∷ 4 ∷ 3 ∷ 4 ∷ 3 ∷ 4 ∷ 3 ∷ 4 ∷ 3 ∷ 4 ∷ 3 ∷ 99 ∷ [])
    ≡ 3 ∷ 4 ∷ 3 ∷ 4 ∷ 3 ∷ 4 ∷ 3 ∷ 4 ∷ 3 ∷ 4 ∷ 3 ∷ 4 ∷ 3 ∷ 4 ∷ 3 ∷ 4 ∷ 3 ∷ 4 ∷ 3 ∷ []
burst = refl

-- two channels of 8 bits, of which the second is masked
abbrev two_channels : Task
two_channels = record {
  format = record {
    channels = 2;
    polarisations = 1;
    bits = 8;
    signed = false;
    high_byte_first = false;
    average = 1;
  };
  plan = record { spectra = 3; mean = 64300; deviation = 8000; most = 255; bits = 8; clip = None; zero_dm = false };
  masked = false ∷ true ∷ [];
}

-- the fourth spectrum is levelled by the moments of the first three; fractions are carried on
short_stretch : levelled two_channels (3 ∷ 7 ∷ 9 ∷ 8 ∷ 5 ∷ 7 ∷ 1 ∷ 9 ∷ [])
    ≡ 55 ∷ 64 ∷ 75 ∷ 64 ∷ 62 ∷ 64 ∷ 49 ∷ 65 ∷ []
unfolding root fine fine_before spectrum_levels first_levels finished kept_before kept_sum
short_stretch = refl

-- two polarisations of 16 bits with a sign, the high byte first, each the sum of two spectra: the fifth is left out
abbrev two_polarisations : Task
two_polarisations = record {
  format = record {
    channels = 1;
    polarisations = 2;
    bits = 16;
    signed = true;
    high_byte_first = true;
    average = 2;
  };
  plan = record { spectra = 16; mean = 1000000; deviation = 50000; most = 65535; bits = 16; clip = None; zero_dm = false };
  masked = false ∷ [];
}

signed_values : levelled two_polarisations
    (255 ∷ 254 ∷ 0 ∷ 5 ∷ 0 ∷ 1 ∷ 255 ∷ 249 ∷ 0 ∷ 3 ∷ 0 ∷ 0 ∷ 0 ∷ 2 ∷ 0 ∷ 2 ∷ 0 ∷ 9 ∷ 0 ∷ 9 ∷ [])
    ≡ 182 ∷ 3 ∷ 182 ∷ 3 ∷ 26 ∷ 4 ∷ 26 ∷ 4 ∷ []
unfolding root fine fine_before spectrum_levels first_levels finished kept_before kept_sum
signed_values = refl

-- spectra of five cells, of which the third is masked
abbrev finishing : Option ℕ → Bool → Plan
finishing clip zero_dm = record {
  spectra = 16;
  mean = 64300;
  deviation = 8000;
  most = 255;
  bits = 8;
  clip = clip;
  zero_dm = zero_dm;
}

abbrev third : ℕ → Bool
third i = slice_index_or (false ∷ false ∷ true ∷ false ∷ false ∷ []) i false

abbrev finish : Option ℕ → Bool → List ℕ → List ℕ
finish clip zero_dm values = finished (finishing clip zero_dm) third values

-- the sum 306 of four values is 48.8 above four means: 3.05 deviations of such a sum
clipped_at_three : finish (Some 3000) false (77 ∷ 76 ∷ 255 ∷ 76 ∷ 77 ∷ []) ≡ 64 ∷ 64 ∷ 64 ∷ 64 ∷ 64 ∷ []
unfolding finished kept_before kept_sum
clipped_at_three = refl

kept_at_more : finish (Some 3100) false (77 ∷ 76 ∷ 255 ∷ 76 ∷ 77 ∷ []) ≡ 77 ∷ 76 ∷ 255 ∷ 76 ∷ 77 ∷ []
unfolding finished kept_before kept_sum
kept_at_more = refl

-- four means are 257: 49 are too many, then 6 too few
too_much : finish None true (77 ∷ 76 ∷ 255 ∷ 76 ∷ 77 ∷ []) ≡ 65 ∷ 64 ∷ 255 ∷ 64 ∷ 64 ∷ []
unfolding finished kept_before kept_sum
too_much = refl

too_little : finish None true (62 ∷ 63 ∷ 255 ∷ 63 ∷ 63 ∷ []) ≡ 64 ∷ 64 ∷ 255 ∷ 65 ∷ 64 ∷ []
unfolding finished kept_before kept_sum
too_little = refl

-- what is clipped is 256 in four cells, of which one more is wanted
both : finish (Some 3000) true (77 ∷ 76 ∷ 255 ∷ 76 ∷ 77 ∷ []) ≡ 65 ∷ 64 ∷ 64 ∷ 64 ∷ 64 ∷ []
unfolding finished kept_before kept_sum
both = refl
