-- Candidate lists over cells that agree.
use Rattle.std.proofs.Common.{◌≡◌, ℕ, ◌*◌, ◌^◌, ◌≤◌, List, sym, subst}
use Rattle.search_model.specs.declared.candidate.Candidate.{Candidate}
use Rattle.search_model.specs.declared.candidate.Candidate.TheVariants.{Pulse, Fold}
use Rattle.search_model.specs.declared.search.Search.{Search}
use Rattle.search_model.specs.Samples.{Filterbank}
use Rattle.search_model.specs.Detection.{IsDetected}
use Rattle.search_model.specs.Candidates.{candidates}
use Rattle.search_model.specs.CandidateLaws.{IsPulse, IsFold, IsCandidate}
use Rattle.search_model.proofs.Listed.{candidate_listed}
use Rattle.search_model.proofs.Order.{rising_same}
use Rattle.search_model.proofs.Rising.{list_rises}

module _ (f : Filterbank) (edges : List ℕ) (s : Search) where
  candidate_agrees : (cells other : ℕ → ℕ) → ((d : ℕ) → s.min_delay ≤ d → d ≤ s.max_delay → cells d ≡ other d) →
      (c : Candidate) → IsCandidate f edges cells s c → IsCandidate f edges other s c
  candidate_agrees cells other same (Pulse end delay width sum) is =
      let pulse : IsPulse f edges other s end delay width sum = record {
        ends = is.ends;
        delay_from = is.delay_from;
        delay_to = is.delay_to;
        box = is.box;
        width_to = is.width_to;
        begins = is.begins;
        adds = is.adds;
        detected = subst (λ n. IsDetected s.mean s.sd s.snr sum (width * n))
            (same delay is.delay_from is.delay_to) is.detected;
      } in
      pulse
  candidate_agrees cells other same (Fold delay period halvings trial phase sum) is =
      let fold : IsFold f edges other s delay period halvings trial phase sum = record {
        delay_from = is.delay_from;
        delay_to = is.delay_to;
        step = is.step;
        period_from = is.period_from;
        period_to = is.period_to;
        rows = is.rows;
        trials = is.trials;
        phases = is.phases;
        adds = is.adds;
        detected = subst (λ n. IsDetected s.mean s.sd s.snr sum (2 ^ halvings * n))
            (same delay is.delay_from is.delay_to) is.detected;
      } in
      fold

pub lists_agree : (f : Filterbank) (edges : List ℕ) (cells other : ℕ → ℕ) (s : Search) →
    ((d : ℕ) → s.min_delay ≤ d → d ≤ s.max_delay → cells d ≡ other d) →
    candidates f edges cells s ≡ candidates f edges other s
lists_agree f edges cells other s same =
    rising_same (candidates f edges cells s) (candidates f edges other s) (list_rises f edges cells s)
    (list_rises f edges other s)
    (λ c. (
      λ h.
          (candidate_listed f edges other s c).1
          (candidate_agrees f edges s cells other same c ((candidate_listed f edges cells s c).0 h)),
      λ h.
          (candidate_listed f edges cells s c).1
          (candidate_agrees f edges s other cells (λ d from to. sym (same d from to)) c
          ((candidate_listed f edges other s c).0 h)),
    ))
