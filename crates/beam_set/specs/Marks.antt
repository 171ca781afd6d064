-- Which pulses of several beams are taken for interference: those near pulses of too many beams.
-- Source: this project's choice.
use Rattle.std.specs.Prelude.{ℕ, Bool, false, List, nat_le, nat_lt, count_by}
use Rattle.std.specs.Int.{abs_diff}
use Rattle.std.specs.List.{list_any}
use Rattle.search_model.specs.declared.candidate.Candidate.{Candidate}
use Rattle.search_model.specs.declared.candidate.Candidate.TheVariants.{Pulse, Fold}

-- whether a candidate is a pulse, of any delay and width, whose end differs from u by at most `within`
abbrev pub is_near : ℕ → ℕ → Candidate → Bool
is_near within u (Pulse end _ _ _) = nat_le (abs_diff u end) within
is_near within u (Fold _ _ _ _ _ _) = false

-- how many beams have such a pulse in their list
abbrev pub near_beams : List (List Candidate) → ℕ → ℕ → ℕ
near_beams lists within u = count_by (λ list. list_any (is_near within u) list) lists

-- whether a pulse that ends at u is marked: more than `more` beams have a pulse near it, and its own beam counts
abbrev pub is_marked : List (List Candidate) → ℕ → ℕ → ℕ → Bool
is_marked lists within more u = nat_lt more (near_beams lists within u)
