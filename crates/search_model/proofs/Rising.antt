-- The candidate list rises.
use Rattle.std.proofs.Common.{◌≡◌, ℕ, ◌+◌, ◌-◌, ◌%◌, ◌^◌, ◌<◌, inl, inr, Bool, true, false, cond, leb, ltb, eqb, List, [], zero, suc, refl, subst, arith}
use Rattle.std.specs.Prelude.{AllPairs, Contains}
use Rattle.std.specs.List.{range_with_len}
use Rattle.std.specs.List.Sorted.{IsStrictlyIncreasing}
use Rattle.std.proofs.lemmas.List.Kept.{AllPairs-filter, AllPairs-from_increasing}
use Rattle.search_model.specs.declared.candidate.Candidate.{Candidate}
use Rattle.search_model.specs.declared.candidate.Candidate.TheVariants.{Pulse, Fold}
use Rattle.search_model.specs.declared.search.Search.{Search}
use Rattle.search_model.specs.Samples.{Filterbank}
use Rattle.search_model.specs.Sums.{between, box_sum}
use Rattle.search_model.specs.Detection.{is_detected}
use Rattle.search_model.specs.Folds.{halvings}
use Rattle.search_model.specs.Search.{box_widths, delays, widths, fold_delays, periods}
use Rattle.search_model.specs.Candidates.{sum_of, cells_of, if_detected, pulse_at, pulses_at, pulses_ending, pulses, fold_at, folds_of_trial, folds_at, folds_of_delay, folds, candidates}
use Rattle.search_model.specs.Order.{Precedes, IsRising}
use Rattle.search_model.proofs.Lists.{no_pairs, pairs_if, pairs_append, pairs_flat_map, pairs_range, member_flat_map}
use Rattle.search_model.proofs.Listed.{member_where, pulse_member, fold_member}

abbrev Less : ℕ → ℕ → Type 0
Less a b = a < b

-- ---- what a search goes through rises

widths_increase : IsStrictlyIncreasing box_widths
widths_increase zero h = omega arith
widths_increase (suc zero) h = omega arith
widths_increase (suc (suc zero)) h = omega arith
widths_increase (suc (suc (suc zero))) h = omega arith
widths_increase (suc (suc (suc (suc zero)))) h = omega arith
widths_increase (suc (suc (suc (suc (suc k))))) h = absurd (omega arith)

widths_rise : (s : Search) → AllPairs Less (widths s)
widths_rise s = AllPairs-filter Less (λ w. leb w s.widest) box_widths
    (AllPairs-from_increasing box_widths widths_increase)

between_rises : (a b : ℕ) → AllPairs Less (between a b)
between_rises a b = pairs_range a (b + 1 - a)

fold_delays_rise : (s : Search) → AllPairs Less (fold_delays s)
fold_delays_rise s =
    AllPairs-filter Less (λ d. eqb ((d - s.min_delay) % s.fold_step) 0) (delays s)
    (between_rises s.min_delay s.max_delay)

-- ---- candidates by their parts

precedes_as : (a x b y : Candidate) → a ≡ x → b ≡ y → Precedes a b → Precedes x y
precedes_as a x b y ea eb h = subst (λ c. Precedes c y) ea (subst (λ c. Precedes a c) eb h)

pairs_where : {X : Type 0} (R : X → X → Type 0) (b : Bool) (xs : List X) → AllPairs R xs → AllPairs R (cond b xs [])
pairs_where R true xs h = h
pairs_where R false xs h = no_pairs R

module _ (f : Filterbank) (edges : List ℕ) (cells : ℕ → ℕ) (s : Search) where
  -- a pulse of an end and a delay
  of_delay : (u d : ℕ) (x : Candidate) → Contains (pulses_at f edges cells s u d) x →
      (w : ℕ) × (sum : ℕ) × (Pulse u d w sum ≡ x)
  of_delay u d x h =
      let one = member_flat_map (λ w. pulse_at f edges cells s u d w) (widths s) x h in
      let at = pulse_member f edges cells s u d one.0 x one.2 in
      (one.0, _, at.is)

  -- a pulse of an end
  pub of_end : (u : ℕ) (x : Candidate) → Contains (pulses_ending f edges cells s u) x →
      (d : ℕ) × (w : ℕ) × (sum : ℕ) × (Pulse u d w sum ≡ x)
  of_end u x h =
      let one = member_flat_map (λ d. pulses_at f edges cells s u d) (delays s) x h in
      let at = of_delay u one.0 x one.2 in
      (one.0, at.0, at.1, at.2)

  pulse_alone : (u d w : ℕ) → IsRising (pulse_at f edges cells s u d w)
  pulse_alone u d w =
      let c : Candidate = Pulse u d w (box_sum f edges u d w) in
      pairs_where Precedes (leb (d + w) (u + 1)) (if_detected cells s c)
      (pairs_if Precedes (is_detected s.mean s.sd s.snr (sum_of c) (cells_of cells c)) c)

  pulses_at_rise : (u d : ℕ) → IsRising (pulses_at f edges cells s u d)
  pulses_at_rise u d =
      pairs_flat_map Less Precedes (λ w. pulse_at f edges cells s u d w) (widths s) (widths_rise s)
      (λ w h. pulse_alone u d w)
      (λ v w x y less hx hy.
      let a = pulse_member f edges cells s u d v x hx in
      let b = pulse_member f edges cells s u d w y hy in
      precedes_as _ x _ y a.is b.is (inr (refl, inr (refl, less))))

  pulses_ending_rise : (u : ℕ) → IsRising (pulses_ending f edges cells s u)
  pulses_ending_rise u =
      pairs_flat_map Less Precedes (λ d. pulses_at f edges cells s u d) (delays s)
      (between_rises s.min_delay s.max_delay)
      (λ d h. pulses_at_rise u d)
      (λ d e x y less hx hy.
      let a = of_delay u d x hx in
      let b = of_delay u e y hy in
      precedes_as _ x _ y a.2 b.2 (inr (refl, inl less)))

  pulses_rise : IsRising (pulses f edges cells s)
  pulses_rise =
      pairs_flat_map Less Precedes (λ u. pulses_ending f edges cells s u) (range_with_len 0 f.spectra)
      (pairs_range 0 f.spectra)
      (λ u h. pulses_ending_rise u)
      (λ u v x y less hx hy.
      let a = of_end u x hx in
      let b = of_end v y hy in
      precedes_as _ x _ y a.3 b.3 (inl less))

  -- a fold of a delay, a period and a trial
  of_trial : (d p m j : ℕ) (x : Candidate) → Contains (folds_of_trial f edges cells s d p m j) x →
      (phase : ℕ) × (sum : ℕ) × (Fold d p m j phase sum ≡ x)
  of_trial d p m j x h =
      let one = member_flat_map (λ i. fold_at f edges cells s d p m j i) (range_with_len 0 p) x h in
      let at = fold_member f edges cells s d p m j one.0 x one.2 in
      (one.0, _, at.is)

  -- a fold of a delay and a period
  of_period : (d p : ℕ) (x : Candidate) → Contains (folds_at f edges cells s d p) x →
      (m : ℕ) × (j : ℕ) × (phase : ℕ) × (sum : ℕ) × (Fold d p m j phase sum ≡ x)
  of_period d p x h =
      let m = halvings s.fold_rows p (f.spectra - d) in
      let rows = member_where (ltb 0 m) _ x h in
      let one = member_flat_map (λ j. folds_of_trial f edges cells s d p m j) (range_with_len 0 (2 ^ m)) x rows.1 in
      let at = of_trial d p m one.0 x one.2 in
      (m, one.0, at.0, at.1, at.2)

  -- a fold of a delay
  pub of_series : (d : ℕ) (x : Candidate) → Contains (folds_of_delay f edges cells s d) x →
      (p : ℕ) × (m : ℕ) × (j : ℕ) × (phase : ℕ) × (sum : ℕ) × (Fold d p m j phase sum ≡ x)
  of_series d x h =
      let one = member_flat_map (λ p. folds_at f edges cells s d p) (periods s) x h in
      let at = of_period d one.0 x one.2 in
      (one.0, at.0, at.1, at.2, at.3, at.4)

  trial_rises : (d p m j : ℕ) → IsRising (folds_of_trial f edges cells s d p m j)
  trial_rises d p m j =
      pairs_flat_map Less Precedes (λ i. fold_at f edges cells s d p m j i) (range_with_len 0 p) (pairs_range 0 p)
      (λ i h. pairs_if Precedes _ _)
      (λ i k x y less hx hy.
      let a = fold_member f edges cells s d p m j i x hx in
      let b = fold_member f edges cells s d p m j k y hy in
      precedes_as _ x _ y a.is b.is (inr (refl, inr (refl, inr (refl, less)))))

  period_rises : (d p : ℕ) → IsRising (folds_at f edges cells s d p)
  period_rises d p =
      let m = halvings s.fold_rows p (f.spectra - d) in
      pairs_where Precedes (ltb 0 m) _
      (pairs_flat_map Less Precedes (λ j. folds_of_trial f edges cells s d p m j) (range_with_len 0 (2 ^ m))
      (pairs_range 0 (2 ^ m))
      (λ j h. trial_rises d p m j)
      (λ j k x y less hx hy.
      let a = of_trial d p m j x hx in
      let b = of_trial d p m k y hy in
      precedes_as _ x _ y a.2 b.2 (inr (refl, inr (refl, inl less)))))

  series_rises : (d : ℕ) → IsRising (folds_of_delay f edges cells s d)
  series_rises d =
      pairs_flat_map Less Precedes (λ p. folds_at f edges cells s d p) (periods s) (between_rises s.fold_min s.fold_max)
      (λ p h. period_rises d p)
      (λ p q x y less hx hy.
      let a = of_period d p x hx in
      let b = of_period d q y hy in
      precedes_as _ x _ y a.4 b.4 (inr (refl, inl less)))

  folds_rise : IsRising (folds f edges cells s)
  folds_rise =
      pairs_flat_map Less Precedes (λ d. folds_of_delay f edges cells s d) (fold_delays s) (fold_delays_rise s)
      (λ d h. series_rises d)
      (λ d e x y less hx hy.
      let a = of_series d x hx in
      let b = of_series e y hy in
      precedes_as _ x _ y a.5 b.5 (inl less))

  -- pulses stand before folds
  pulse_first : (x y : Candidate) → Contains (pulses f edges cells s) x → Contains (folds f edges cells s) y →
      Precedes x y
  pulse_first x y hx hy =
      let end = member_flat_map (λ u. pulses_ending f edges cells s u) (range_with_len 0 f.spectra) x hx in
      let delay = member_flat_map (λ d. folds_of_delay f edges cells s d) (fold_delays s) y hy in
      let a = of_end end.0 x end.2 in
      let b = of_series delay.0 y delay.2 in
      precedes_as _ x _ y a.3 b.5 tt

  pub list_rises : IsRising (candidates f edges cells s)
  list_rises = pairs_append Precedes (pulses f edges cells s) (folds f edges cells s) pulses_rise folds_rise pulse_first
