-- Lists in which pulses come first and are ordered by their ends.
-- Source: this project's choice.
use Rattle.std.specs.Prelude.{ℕ, Bool, false, List, nat_lt}
use Rattle.std.specs.List.Sorted.{IsPartitionedBy}
use Rattle.search_model.specs.declared.candidate.Candidate.{Candidate}
use Rattle.search_model.specs.declared.candidate.Candidate.TheVariants.{Pulse, Fold}

-- whether a candidate is a pulse that ends before u
abbrev pub is_before : ℕ → Candidate → Bool
is_before u (Pulse end _ _ _) = nat_lt end u
is_before u (Fold _ _ _ _ _ _) = false

-- of each spectrum, the pulses that end before it come first
abbrev pub EndsRise : List Candidate → Type 0
EndsRise list = (u : ℕ) → IsPartitionedBy (is_before u) list
