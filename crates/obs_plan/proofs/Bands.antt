-- When a BW lies in its row.
use Rattle.std.proofs.Common.{◌≡◌, ℕ, ◌+◌, ◌*◌, ◌^◌, ◌<◌, ◌≤◌, Bool, true, false, List, refl, arith, Ok}
use Rattle.std.specs.Prelude.{◌↔◌, ℤ, pos, unsigned_abs}
use Rattle.std.specs.Result.{result_unwrap_or}
use Rattle.dada_model.specs.declared.key.Key.{Key}
use Rattle.dada_model.specs.declared.key.Key.TheVariants.{Nchan, Freq, Bw}
use Rattle.dada_model.specs.Fields.{Field}
use Rattle.dada_model.specs.Observation.{number_of, observation_in, is_in_row}
use Rattle.dada_model.specs.Bounds.{IsBandWidth}
use Rattle.dada_model.specs.Laws.{BandsInRow}
use Rattle.obs_plan.specs.Rows.{IsBand}

magnitude_of : (fields : List Field) (key : Key) (z : ℤ) → number_of fields key ≡ Ok z →
    unsigned_abs (result_unwrap_or (number_of fields key) (pos 0)) ≡ unsigned_abs z
magnitude_of fields key z e = rw e refl

module _ (fields : List Field) (z : ℤ) where
  channels_of : number_of fields Nchan ≡ Ok z → (observation_in fields).channels ≡ unsigned_abs z
  unfolding observation_in
  channels_of e = magnitude_of fields Nchan z e

  centre_of : number_of fields Freq ≡ Ok z → (observation_in fields).centre_hz ≡ unsigned_abs z
  unfolding observation_in
  centre_of e = magnitude_of fields Freq z e

  width_of : number_of fields Bw ≡ Ok z → (observation_in fields).width_hz ≡ unsigned_abs z
  unfolding observation_in
  width_of e = magnitude_of fields Bw z e

decided : (b : Bool) → (b ≡ true → ⊥) → b ≡ false
decided true h = absurd (h refl)
decided false h = refl

pub large_is_no_band : (width centre : ℕ) → 10 ^ 18 < width → ¬ IsBand width centre
large_is_no_band width centre large = λ (some, foot, top). omega arith

module _ (law : BandsInRow) (fields : List Field) (channels centre : ℕ)
    (channels_are : number_of fields Nchan ≡ Ok (pos channels)) (some : 0 < channels)
    (centre_is : number_of fields Freq ≡ Ok (pos centre)) (z : ℤ) (width_is : number_of fields Bw ≡ Ok z) where
  row : (is_in_row (observation_in fields) Bw z ≡ true) ↔ IsBandWidth (observation_in fields) (unsigned_abs z)
  row = law (observation_in fields) z (rw (channels_of fields (pos channels) channels_are) some)

  pub band_in_row : IsBand (unsigned_abs z) centre → is_in_row (observation_in fields) Bw z ≡ true
  band_in_row band =
      let is : IsBandWidth (observation_in fields) (unsigned_abs z) = record {
        some = band.0;
        foot = rw (width_of fields z width_is, centre_of fields (pos centre) centre_is) band.1;
        top = rw (width_of fields z width_is, centre_of fields (pos centre) centre_is) band.2;
      } in
      row.1 is

  pub band_outside : ¬ IsBand (unsigned_abs z) centre → is_in_row (observation_in fields) Bw z ≡ false
  band_outside no_band = decided (is_in_row (observation_in fields) Bw z) (λ e.
      let is = row.0 e in
      let foot : unsigned_abs z + 2000 ≤ 2 * centre =
      rw (width_of fields z width_is, centre_of fields (pos centre) centre_is) at is.foot in
      let top : 2 * centre + unsigned_abs z < 2000 * 16777217 =
      rw (width_of fields z width_is, centre_of fields (pos centre) centre_is) at is.top in
      no_band (is.some, foot, top))
