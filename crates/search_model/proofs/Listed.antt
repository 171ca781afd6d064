-- What stands in the candidate list.
use Rattle.std.proofs.Common.{◌≡◌, ℕ, ◌+◌, ◌-◌, ◌*◌, ◌%◌, ◌^◌, ◌<◌, ◌≤◌, inl, inr, ◌↔◌, Bool, true, false, cond, leb, ltb, eqb, List, [], refl, subst, arith}
use Rattle.std.specs.Prelude.{Contains}
use Rattle.std.specs.List.{range_with_len}
use Rattle.std.proofs.lemmas.Bool.{leb-true, le-leb, ltb-true, lt-ltb, eqb-true}
use Rattle.std.proofs.lemmas.List.Elements.{Contains-append_left, Contains-append_right, Contains-append_cases}
use Rattle.search_model.specs.declared.candidate.Candidate.{Candidate}
use Rattle.search_model.specs.declared.candidate.Candidate.TheVariants.{Pulse, Fold}
use Rattle.search_model.specs.declared.search.Search.{Search}
use Rattle.search_model.specs.Samples.{Filterbank}
use Rattle.search_model.specs.Sums.{box_sum}
use Rattle.search_model.specs.Folds.{series, halvings, fold_sum}
use Rattle.search_model.specs.Detection.{IsDetected, is_detected}
use Rattle.search_model.specs.Search.{box_widths, delays, widths, fold_delays, periods}
use Rattle.search_model.specs.Candidates.{sum_of, cells_of, if_detected, pulse_at, pulses_at, pulses_ending, pulses, fold_at, folds_of_trial, folds_at, folds_of_delay, folds, candidates}
use Rattle.search_model.specs.CandidateLaws.{IsMostHalvings, IsPulse, IsFold, IsCandidate}
use Rattle.search_model.proofs.Detection.{detection_test}
use Rattle.search_model.proofs.Lists.{no_member, member_if, if_member, member_filter, filter_member, member_flat_map, flat_map_member, member_range, range_member}
use Rattle.search_model.proofs.Halvings.{member_between, between_member, most_halvings, halvings_are}

-- a list that is there where a test passes
pub member_where : {X : Type 0} (b : Bool) (xs : List X) (x : X) → Contains (cond b xs []) x →
    (b ≡ true) × Contains xs x
member_where true xs x h = (refl, h)
member_where false xs x h = absurd (no_member x h)

where_member : {X : Type 0} (b : Bool) (xs : List X) (x : X) → b ≡ true → Contains xs x → Contains (cond b xs []) x
where_member b xs x e h = rw e h

module _ (f : Filterbank) (edges : List ℕ) (cells : ℕ → ℕ) (s : Search) where
  detected_member : (c x : Candidate) → Contains (if_detected cells s c) x →
      IsDetected s.mean s.sd s.snr (sum_of c) (cells_of cells c) × (c ≡ x)
  detected_member c x h =
      let both = member_if (is_detected s.mean s.sd s.snr (sum_of c) (cells_of cells c)) c x h in
      ((detection_test s.mean s.sd s.snr (sum_of c) (cells_of cells c)).0 both.0, both.1)

  member_detected : (c : Candidate) → IsDetected s.mean s.sd s.snr (sum_of c) (cells_of cells c) →
      Contains (if_detected cells s c) c
  member_detected c is = if_member _ c ((detection_test s.mean s.sd s.snr (sum_of c) (cells_of cells c)).1 is)

  -- ---- pulses

  -- a member of the pulses of an end, a delay and a width
  pub record IsPulseAt (u d w : ℕ) (x : Candidate) : Type 0 where
    pub begins : d + w ≤ u + 1
    pub detected : IsDetected s.mean s.sd s.snr (box_sum f edges u d w) (w * cells d)
    pub is : Pulse u d w (box_sum f edges u d w) ≡ x

  pub pulse_member : (u d w : ℕ) (x : Candidate) → Contains (pulse_at f edges cells s u d w) x → IsPulseAt u d w x
  pulse_member u d w x h =
      let test = member_where (leb (d + w) (u + 1)) _ x h in
      let found = detected_member (Pulse u d w (box_sum f edges u d w)) x test.1 in
      record { begins = leb-true (d + w) (u + 1) test.0; detected = found.0; is = found.1 }

  pulse_candidate : (u d w : ℕ) (x : Candidate) → u < f.spectra → Contains (delays s) d → Contains (widths s) w →
      IsPulseAt u d w x →
      IsCandidate f edges cells s x
  pulse_candidate u d w x end hd hw at =
      let delay = member_between s.min_delay s.max_delay d hd in
      let width = member_filter (λ i. leb i s.widest) box_widths w hw in
      let pulse : IsPulse f edges cells s u d w (box_sum f edges u d w) = record {
        ends = end;
        delay_from = delay.0;
        delay_to = delay.1;
        box = width.1;
        width_to = leb-true w s.widest width.0;
        begins = at.begins;
        adds = refl;
        detected = at.detected;
      } in
      subst (λ c. IsCandidate f edges cells s c) at.is pulse

  is_pulse : (x : Candidate) → Contains (pulses f edges cells s) x → IsCandidate f edges cells s x
  is_pulse x h =
      let ends = member_flat_map (λ u. pulses_ending f edges cells s u) (range_with_len 0 f.spectra) x h in
      let of_delay = member_flat_map (λ d. pulses_at f edges cells s ends.0 d) (delays s) x ends.2 in
      let of_width = member_flat_map (λ w. pulse_at f edges cells s ends.0 of_delay.0 w) (widths s) x of_delay.2 in
      let end = member_range 0 f.spectra ends.0 ends.1 in
      pulse_candidate ends.0 of_delay.0 of_width.0 x (omega (arith, end.1)) of_delay.1 of_width.1
      (pulse_member ends.0 of_delay.0 of_width.0 x of_width.2)

  pulse_is : (end delay width sum : ℕ) → IsPulse f edges cells s end delay width sum →
      Contains (pulses f edges cells s) (Pulse end delay width sum)
  pulse_is end delay width sum is =
      let detected : IsDetected s.mean s.sd s.snr (box_sum f edges end delay width) (width * cells delay) =
      rw is.adds at is.detected in
      rw is.adds
      (flat_map_member (λ u. pulses_ending f edges cells s u) (range_with_len 0 f.spectra) end _
      (range_member 0 f.spectra end (omega arith) (let ends = is.ends in omega arith))
      (flat_map_member (λ d. pulses_at f edges cells s end d) (delays s) delay _
      (between_member s.min_delay s.max_delay delay is.delay_from is.delay_to)
      (flat_map_member (λ w. pulse_at f edges cells s end delay w) (widths s) width _
      (filter_member (λ w. leb w s.widest) box_widths width (le-leb width s.widest is.width_to) is.box)
      (where_member (leb (delay + width) (end + 1)) _ _ (le-leb (delay + width) (end + 1) is.begins)
      (member_detected (Pulse end delay width (box_sum f edges end delay width)) detected)))))

  -- ---- folds

  -- a member of the folds of a delay, a period, a number of halvings, a trial and a phase
  pub record IsFoldAt (d p m j phase : ℕ) (x : Candidate) : Type 0 where
    pub detected : IsDetected s.mean s.sd s.snr (fold_sum (series f edges d) p m j phase) (2 ^ m * cells d)
    pub is : Fold d p m j phase (fold_sum (series f edges d) p m j phase) ≡ x

  pub fold_member : (d p m j phase : ℕ) (x : Candidate) → Contains (fold_at f edges cells s d p m j phase) x →
      IsFoldAt d p m j phase x
  fold_member d p m j phase x h =
      let found = detected_member (Fold d p m j phase (fold_sum (series f edges d) p m j phase)) x h in
      record { detected = found.0; is = found.1 }

  fold_candidate : (d p m j phase : ℕ) (x : Candidate) → Contains (fold_delays s) d → Contains (periods s) p →
      IsMostHalvings s.fold_rows p (f.spectra - d) m → j < 2 ^ m → phase < p → IsFoldAt d p m j phase x →
      IsCandidate f edges cells s x
  fold_candidate d p m j phase x hd hp rows trial within at =
      let step = member_filter (λ i. eqb ((i - s.min_delay) % s.fold_step) 0) (delays s) d hd in
      let delay = member_between s.min_delay s.max_delay d step.1 in
      let period = member_between s.fold_min s.fold_max p hp in
      let fold : IsFold f edges cells s d p m j phase (fold_sum (series f edges d) p m j phase) = record {
        delay_from = delay.0;
        delay_to = delay.1;
        step = eqb-true _ 0 step.0;
        period_from = period.0;
        period_to = period.1;
        rows = rows;
        trials = trial;
        phases = within;
        adds = refl;
        detected = at.detected;
      } in
      subst (λ c. IsCandidate f edges cells s c) at.is fold

  is_fold_at : (d p : ℕ) (x : Candidate) → Contains (fold_delays s) d → Contains (periods s) p →
      Contains (folds_at f edges cells s d p) x →
      IsCandidate f edges cells s x
  is_fold_at d p x hd hp h =
      let m = halvings s.fold_rows p (f.spectra - d) in
      let rows = member_where (ltb 0 m) _ x h in
      let of_trial = member_flat_map (λ j. folds_of_trial f edges cells s d p m j)
      (range_with_len 0 (2 ^ m)) x rows.1 in
      let of_phase = member_flat_map (λ i. fold_at f edges cells s d p m of_trial.0 i)
      (range_with_len 0 p) x of_trial.2 in
      let trial = member_range 0 (2 ^ m) of_trial.0 of_trial.1 in
      let phase = member_range 0 p of_phase.0 of_phase.1 in
      fold_candidate d p m of_trial.0 of_phase.0 x hd hp
      (most_halvings s.fold_rows p (f.spectra - d) (ltb-true 0 m rows.0))
      (omega (arith, trial.1)) (omega (arith, phase.1)) (fold_member d p m of_trial.0 of_phase.0 x of_phase.2)

  is_fold : (x : Candidate) → Contains (folds f edges cells s) x → IsCandidate f edges cells s x
  is_fold x h =
      let of_delay = member_flat_map (λ d. folds_of_delay f edges cells s d) (fold_delays s) x h in
      let of_period = member_flat_map (λ p. folds_at f edges cells s of_delay.0 p) (periods s) x of_delay.2 in
      is_fold_at of_delay.0 of_period.0 x of_delay.1 of_period.1 of_period.2

  folds_member : (d p m j phase : ℕ) → halvings s.fold_rows p (f.spectra - d) ≡ m → 0 < m → j < 2 ^ m → phase < p →
      (x : Candidate) →
      Contains (fold_at f edges cells s d p m j phase) x → Contains (folds_at f edges cells s d p) x
  folds_member d p m j phase e some trial within x h =
      rw (e, lt-ltb 0 m some)
      (flat_map_member (λ i. folds_of_trial f edges cells s d p m i) (range_with_len 0 (2 ^ m)) j x
      (range_member 0 (2 ^ m) j (omega arith) (omega arith))
      (flat_map_member (λ i. fold_at f edges cells s d p m j i) (range_with_len 0 p) phase x
      (range_member 0 p phase (omega arith) (omega arith)) h))

  fold_is : (d p m j phase sum : ℕ) → IsFold f edges cells s d p m j phase sum →
      Contains (folds f edges cells s) (Fold d p m j phase sum)
  fold_is d p m j phase sum is =
      let detected : IsDetected s.mean s.sd s.snr (fold_sum (series f edges d) p m j phase) (2 ^ m * cells d) =
      rw is.adds at is.detected in
      let step : eqb ((d - s.min_delay) % s.fold_step) 0 ≡ true = rw is.step refl in
      rw is.adds
      (flat_map_member (λ i. folds_of_delay f edges cells s i) (fold_delays s) d _
      (filter_member (λ i. eqb ((i - s.min_delay) % s.fold_step) 0) (delays s) d step
      (between_member s.min_delay s.max_delay d is.delay_from is.delay_to))
      (flat_map_member (λ i. folds_at f edges cells s d i) (periods s) p _
      (between_member s.fold_min s.fold_max p is.period_from is.period_to)
      (folds_member d p m j phase
      (halvings_are s.fold_rows p (f.spectra - d) m is.rows) is.rows.some is.trials is.phases _
      (member_detected (Fold d p m j phase (fold_sum (series f edges d) p m j phase)) detected))))

  -- ---- the list

  is_candidate : (x : Candidate) → Contains (candidates f edges cells s) x → IsCandidate f edges cells s x
  is_candidate x h = elim (Contains-append_cases (pulses f edges cells s) (folds f edges cells s) x h) [
    | inl pulse ↦ is_pulse x pulse
    | inr fold ↦ is_fold x fold
  ]

  candidate_is : (x : Candidate) → IsCandidate f edges cells s x → Contains (candidates f edges cells s) x
  candidate_is (Pulse end delay width sum) is =
      Contains-append_left (pulses f edges cells s) (folds f edges cells s) _ (pulse_is end delay width sum is)
  candidate_is (Fold d p m j phase sum) is =
      Contains-append_right (pulses f edges cells s) (folds f edges cells s) _ (fold_is d p m j phase sum is)

  pub candidate_listed : (x : Candidate) → Contains (candidates f edges cells s) x ↔ IsCandidate f edges cells s x
  candidate_listed x = (is_candidate x, candidate_is x)
