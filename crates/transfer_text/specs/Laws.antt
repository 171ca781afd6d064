-- How many candidates there can be. The functions of this crate carry these laws.
-- Source: this project's choice.
use Rattle.std.specs.Prelude.{◌≡◌, ◌+◌, ◌*◌, ◌^◌, ◌<◌, ◌≤◌, ℕ, List, length, None, All}
use Rattle.std.specs.List.{sum_by}
use Rattle.dada_model.specs.Observation.{Observation}
use Rattle.search_model.specs.declared.search.Search.{Search}
use Rattle.search_model.specs.Search.{SettingsInRange}
use Rattle.search_model.specs.Plan.{plan_refusal}
use Rattle.search_model.specs.Observed.{filterbank_of, candidates_of}
use Rattle.transfer_text.specs.Searched.{ObservedTransfer, candidate_total}

-- at most six boxes end at each spectrum in each of 8193 delays; and in each of 64 folded delays at most 2^20 periods
-- are folded, each with at most 2^22 sums over its trials and phases
abbrev pub CandidatesAreFew : Type 0
CandidatesAreFew = (o : Observation) (s : Search) (bytes : List ℕ) →
    SettingsInRange s → plan_refusal o s ≡ None →
    length (candidates_of o s bytes) ≤ 49158 * (filterbank_of o bytes).spectra + 2 ^ 48

-- so the candidates of at most 8 transfers, which have at most 2^48 data bytes together, are counted in 64 bits
abbrev pub TotalsAreCounted : Type 0
TotalsAreCounted = (s : Search) (transfers : List ObservedTransfer) →
    SettingsInRange s → length transfers ≤ 8 →
    All (λ t. plan_refusal t.observation s ≡ None) transfers →
    sum_by (λ t. length t.bytes) transfers ≤ 2 ^ 48 →
    candidate_total s transfers < 2 ^ 64
