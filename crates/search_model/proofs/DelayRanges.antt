-- A search that is cut into neighbouring ranges of delays.
use Rattle.std.proofs.Common.{◌≡◌, ℕ, ◌+◌, ◌-◌, ◌%◌, ◌<◌, ◌≤◌, inl, inr, Bool, List, sum_by, count_by, sym, ap, ◌∙◌, arith}
use Rattle.std.specs.Prelude.{Contains}
use Rattle.std.proofs.Math.Nat.{add-mod-mod}
use Rattle.search_model.specs.declared.candidate.Candidate.{Candidate}
use Rattle.search_model.specs.declared.candidate.Candidate.TheVariants.{Pulse, Fold}
use Rattle.search_model.specs.declared.search.Search.{Search}
use Rattle.search_model.specs.Samples.{Filterbank}
use Rattle.search_model.specs.Candidates.{delay_of, candidates, within_delays}
use Rattle.search_model.specs.CandidateLaws.{IsPulse, IsFold, IsCandidate}
use Rattle.search_model.specs.DelayRanges.{over_delays, IsDelayRange, AreDelayRanges, range_lists}
use Rattle.search_model.specs.Order.{IsMergeOf}
use Rattle.search_model.proofs.Delays.{within_members, within_rises, parts_between, between_merge, all_within, starts_rise, counts_join}
use Rattle.search_model.proofs.Listed.{candidate_listed}
use Rattle.search_model.proofs.Lists.{maps_agree}
use Rattle.search_model.proofs.Order.{rising_same}
use Rattle.search_model.proofs.Rising.{list_rises}
use Rattle.search_model.proofs.Shards.{delay_within}

-- ---- one range

-- from a multiple of a step on, the multiples of the step are counted alike
same_steps : (min least d step : ℕ) → min ≤ least → least ≤ d → (least - min) % step ≡ 0 →
    (d - min) % step ≡ (d - least) % step
same_steps min least d step from further at =
    let e : d - least + (least - min) ≡ d - min = omega arith in
    let z : d - least + 0 ≡ d - least = omega arith in
    let same = add-mod-mod (d - least) (least - min) step in
    sym (rw (e, at, z) at same)

module _ (f : Filterbank) (edges : List ℕ) (cells : ℕ → ℕ) (s : Search) (least most : ℕ)
    (range : IsDelayRange s least most) where
  abbrev alone : Search
  alone = over_delays s least most

  -- where something is folded, the range folds a delay of its own exactly where the whole search does
  step_is : (d p : ℕ) → least ≤ d → s.fold_min ≤ p → p ≤ s.fold_max →
      (d - s.min_delay) % s.fold_step ≡ (d - least) % s.fold_step
  step_is d p from period_from period_to = elim range.folds [
    | inl off ↦ absurd (omega arith)
    | inr at ↦ same_steps s.min_delay least d s.fold_step range.from from at
  ]

  to_whole : (c : Candidate) → IsCandidate f edges cells alone c →
      IsCandidate f edges cells s c × (least ≤ delay_of c) × (delay_of c < most + 1)
  to_whole (Pulse end delay width sum) is =
      let from = is.delay_from in
      let to = is.delay_to in
      let first = range.from in
      let last = range.to in
      let whole : IsPulse f edges cells s end delay width sum = record {
        ends = is.ends;
        delay_from = omega arith;
        delay_to = omega arith;
        box = is.box;
        width_to = is.width_to;
        begins = is.begins;
        adds = is.adds;
        detected = is.detected;
      } in
      (whole, from, omega arith)
  to_whole (Fold delay period halvings trial phase sum) is =
      let from = is.delay_from in
      let to = is.delay_to in
      let first = range.from in
      let last = range.to in
      let whole : IsFold f edges cells s delay period halvings trial phase sum = record {
        delay_from = omega arith;
        delay_to = omega arith;
        step = step_is delay period from is.period_from is.period_to ∙ is.step;
        period_from = is.period_from;
        period_to = is.period_to;
        rows = is.rows;
        trials = is.trials;
        phases = is.phases;
        adds = is.adds;
        detected = is.detected;
      } in
      (whole, from, omega arith)

  of_whole : (c : Candidate) → IsCandidate f edges cells s c → least ≤ delay_of c → delay_of c < most + 1 →
      IsCandidate f edges cells alone c
  of_whole (Pulse end delay width sum) is from to =
      let alike : IsPulse f edges cells alone end delay width sum = record {
        ends = is.ends;
        delay_from = from;
        delay_to = omega arith;
        box = is.box;
        width_to = is.width_to;
        begins = is.begins;
        adds = is.adds;
        detected = is.detected;
      } in
      alike
  of_whole (Fold delay period halvings trial phase sum) is from to =
      let alike : IsFold f edges cells alone delay period halvings trial phase sum = record {
        delay_from = from;
        delay_to = omega arith;
        step = sym (step_is delay period from is.period_from is.period_to) ∙ is.step;
        period_from = is.period_from;
        period_to = is.period_to;
        rows = is.rows;
        trials = is.trials;
        phases = is.phases;
        adds = is.adds;
        detected = is.detected;
      } in
      alike

  -- the candidate list of a range is the whole list's part of its delays
  pub range_part : candidates f edges cells (over_delays s least most)
      ≡ within_delays least (most + 1) (candidates f edges cells s)
  range_part =
      let list = candidates f edges cells s in
      rising_same (candidates f edges cells alone) (within_delays least (most + 1) list)
      (list_rises f edges cells alone) (within_rises least (most + 1) list (list_rises f edges cells s))
      (λ c. (
        λ h.
            let is = to_whole c ((candidate_listed f edges cells alone c).0 h) in
            (within_members least (most + 1) list c).1
            ((candidate_listed f edges cells s c).1 is.0, is.1, is.2),
        λ h.
            let stands = (within_members least (most + 1) list c).0 h in
            (candidate_listed f edges cells alone c).1
            (of_whole c ((candidate_listed f edges cells s c).0 stands.0) stands.1 stands.2),
      ))

-- ---- neighbouring ranges

module _ (f : Filterbank) (edges : List ℕ) (cells : ℕ → ℕ) (s : Search) (n : ℕ) (start : ℕ → ℕ)
    (ranges : AreDelayRanges s n start) where
  -- starts rise from each to the last
  to_last : (k : ℕ) → k ≤ n → start k ≤ start n
  to_last k small =
      let e : k + (n - k) ≡ n = omega arith in
      let z : k + 0 ≡ k = omega arith in
      rw (e, z) at (starts_rise (λ i. start (k + i)) (n - k)
      (λ i within. let next : k + (i + 1) ≡ k + i + 1 = omega arith in rw next (ranges.rise (k + i) (omega arith))))

  from_first : (k : ℕ) → k ≤ n → start 0 ≤ start k
  from_first k small = starts_rise start k (λ i within. ranges.rise i (omega arith))

  range_at : (k : ℕ) → k < n → IsDelayRange s (start k) (start (k + 1) - 1)
  range_at k small =
      let from = from_first k (omega arith) in
      let to = to_last (k + 1) (omega arith) in
      let first = ranges.first in
      let last = ranges.last in
      let rises = ranges.rise k small in
      record { from = omega arith; some = omega arith; to = omega arith; folds = ranges.folds k small }

  lists_are : range_lists f edges cells s n start ≡ parts_between start n (candidates f edges cells s)
  lists_are =
      maps_agree _ _ 0 n
      (λ k from to.
      let rises = ranges.rise k (omega arith) in
      let e : start (k + 1) - 1 + 1 ≡ start (k + 1) = omega arith in
      range_part f edges cells s (start k) (start (k + 1) - 1) (range_at k (omega arith))
      ∙ ap (λ bound. within_delays (start k) bound (candidates f edges cells s)) e)

  inside : (c : Candidate) → Contains (candidates f edges cells s) c →
      (start 0 ≤ delay_of c) × (delay_of c < start n)
  inside c h =
      let within = delay_within f edges cells s c ((candidate_listed f edges cells s c).0 h) in
      let from = within.0 in
      let to = within.1 in
      let first = ranges.first in
      let last = ranges.last in
      (omega arith, omega arith)

  pub ranges_merged : IsMergeOf (range_lists f edges cells s n start) (candidates f edges cells s)
  ranges_merged =
      rw lists_are
      (between_merge start n (candidates f edges cells s) (list_rises f edges cells s) inside)

  pub ranges_counted : (kind : Candidate → Bool) →
      sum_by (λ list. count_by kind list) (range_lists f edges cells s n start)
      ≡ count_by kind (candidates f edges cells s)
  ranges_counted kind =
      let all = all_within start n (candidates f edges cells s) (list_rises f edges cells s) inside in
      ap (λ lists. sum_by (λ list. count_by kind list) lists) lists_are
      ∙ counts_join kind start n (candidates f edges cells s) ranges.rise
      ∙ ap (λ list. count_by kind list) all
