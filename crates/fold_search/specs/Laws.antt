-- A list of candidates that is put together delay by delay.
-- Source: this project's choice.
use Rattle.std.specs.Prelude.{◌≡◌, ℕ, ◌+◌, ◌-◌, ◌≤◌, All, List}
use Rattle.std.specs.List.{range_with_len, flat_map}
use Rattle.search_model.specs.declared.candidate.Candidate.{Candidate}
use Rattle.search_model.specs.Candidates.{delay_of, within_delays}

-- Of what is listed for each of n delays, from `first` on, the part that is within some of these delays is what is
-- listed for those.
abbrev pub DelaysArePart : Type 0
DelaysArePart = (listed : ℕ → List Candidate) (first least bound n : ℕ) →
    ((d : ℕ) → All (λ c. delay_of c ≡ d) (listed d)) →
    first ≤ least → least ≤ bound → bound ≤ first + n →
    within_delays least bound (flat_map listed (range_with_len first n))
    ≡ flat_map listed (range_with_len least (bound - least))
