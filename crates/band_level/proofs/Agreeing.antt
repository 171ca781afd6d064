-- Bands that have their first whole stretches in common.
use Rattle.std.proofs.Common.{◌≡◌, ℕ, ◌+◌, ◌-◌, ◌*◌, ◌/◌, ◌<◌, ◌≤◌, min, ◌∙◌, sym, ap, arith}
use Rattle.std.specs.List.{flat_map}
use Rattle.std.proofs.Math.Nat.{mul-le-mul_right}
use Rattle.std.proofs.lemmas.Nat.{div_below, le-div}
use Rattle.band_level.specs.Values.{Band, cells}
use Rattle.band_level.specs.Moments.{fair_moments}
use Rattle.band_level.specs.Scales.{Scale, scale_of, unit}
use Rattle.band_level.specs.Finished.{finished}
use Rattle.band_level.specs.Levelled.{Task, is_masked, stretch_values, scale_by, stretch_for, scale_at, fine, fine_before, level, value_bytes, spectrum_levels, first_levels}
use Rattle.band_level.proofs.Ranges.{maps_agree, pieces_agree, sums_agree}

-- the first so many whole stretches are the same
pub record Agree (k : Task) (b c : Band) (stretches : ℕ) : Type 0 where
  pub some : 0 < k.plan.spectra
  pub enough : stretches * k.plan.spectra ≤ b.spectra
  pub others : stretches * k.plan.spectra ≤ c.spectra
  pub values : (t i : ℕ) → t < stretches * k.plan.spectra → i < cells k.format → b.value t i ≡ c.value t i

-- a spectrum of whole stretches is levelled by its own
pub own_stretch : (k : Task) (b : Band) (stretches t : ℕ) → 0 < k.plan.spectra → stretches * k.plan.spectra ≤ b.spectra
    → t < stretches * k.plan.spectra → stretch_for k b t ≡ t / k.plan.spectra
own_stretch k b stretches t some enough lt =
    let all : stretches ≤ b.spectra / k.plan.spectra = le-div stretches b.spectra k.plan.spectra some enough in
    let own : t / k.plan.spectra < stretches = div_below t k.plan.spectra stretches some lt in
    omega arith

module _ (k : Task) (b c : Band) (stretches : ℕ) (agree : Agree k b c stretches) where
  pub scales_agree : (s i : ℕ) → s < stretches → i < cells k.format → scale_by k b s i ≡ scale_by k c s i
  scales_agree s i lt here =
      let n = k.plan.spectra in
      let part : (s + 1) * n ≤ stretches * n = mul-le-mul_right n (omega arith) in
      let all : min n b.spectra ≡ n = let e = agree.enough in omega arith in
      let all_too : min n c.spectra ≡ n = let e = agree.others in omega arith in
      let values : stretch_values k b s i ≡ stretch_values k c s i =
      rw (all, all_too) (maps_agree 0 (λ j. b.value (s * n + j) i) (λ j. c.value (s * n + j) i) n
      (λ j lt. agree.values (s * n + j) i (omega arith) here)) in
      ap (λ xs. scale_of k.plan (is_masked k i) (fair_moments xs)) values

  at_agrees : (t i : ℕ) → t < stretches * k.plan.spectra → i < cells k.format → scale_at k b t i ≡ scale_at k c t i
  at_agrees t i lt here =
      let own = own_stretch k b stretches t agree.some agree.enough lt in
      let own_too = own_stretch k c stretches t agree.some agree.others lt in
      ap (λ s. scale_by k b s i) own
      ∙ scales_agree (t / k.plan.spectra) i (div_below t k.plan.spectra stretches agree.some lt) here
      ∙ ap (λ s. scale_by k c s i) (sym own_too)

  fine_agrees : (t i : ℕ) → t < stretches * k.plan.spectra → i < cells k.format → fine k b i t ≡ fine k c i t
  unfolding fine
  fine_agrees t i lt here =
      ap (λ (s : Scale). s.base + s.gain * b.value t i) (at_agrees t i lt here)
      ∙ ap (λ x. (scale_at k c t i).base + (scale_at k c t i).gain * x) (agree.values t i lt here)

  pub before_agrees : (t i : ℕ) → t ≤ stretches * k.plan.spectra → i < cells k.format
      → fine_before k b i t ≡ fine_before k c i t
  unfolding fine_before
  before_agrees t i le here =
      sums_agree (fine k b i) (fine k c i) t (λ u lt. fine_agrees u i (omega arith) here)

  level_agrees : (t i : ℕ) → t < stretches * k.plan.spectra → i < cells k.format → level k b i t ≡ level k c i t
  level_agrees t i lt here =
      ap (λ x. min k.plan.most (x / unit - fine_before k b i t / unit - (scale_at k b t i).lift))
      (before_agrees (t + 1) i (omega arith) here)
      ∙ ap (λ x. min k.plan.most (fine_before k c i (t + 1) / unit - x / unit - (scale_at k b t i).lift))
      (before_agrees t i (omega arith) here)
      ∙ ap (λ (s : Scale). min k.plan.most (fine_before k c i (t + 1) / unit - fine_before k c i t / unit - s.lift))
      (at_agrees t i lt here)

  spectrum_agrees : (t : ℕ) → t < stretches * k.plan.spectra → spectrum_levels k b t ≡ spectrum_levels k c t
  unfolding spectrum_levels
  spectrum_agrees t lt =
      ap (λ xs. flat_map (value_bytes k.plan.bits) (finished k.plan (is_masked k) xs))
      (maps_agree 0 (λ i. level k b i t) (λ i. level k c i t) (cells k.format) (λ i here. level_agrees t i lt here))

  pub levels_agree : (n : ℕ) → n ≤ stretches * k.plan.spectra → first_levels k b n ≡ first_levels k c n
  unfolding first_levels
  levels_agree n le =
      pieces_agree (spectrum_levels k b) (spectrum_levels k c) n (λ t lt. spectrum_agrees t (omega arith))
