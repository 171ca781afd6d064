-- The order of candidates, and lists that are merged by it.
-- Source: this project's choice.
use Rattle.std.specs.Prelude.{◌≡◌, ℕ, ◌<◌, ◌⊎◌, ◌↔◌, ⊤, List, Contains, Any, AllPairs}
use Rattle.search_model.specs.declared.candidate.Candidate.{Candidate}
use Rattle.search_model.specs.declared.candidate.Candidate.TheVariants.{Pulse, Fold}

-- a is below b; or they are equal, and what is compared next is below
abbrev pub IsBelow : ℕ → ℕ → Type 0 → Type 0
IsBelow a b next = (a < b) ⊎ ((a ≡ b) × next)

-- pulses go by end, delay and width, and stand before all folds; folds go by delay, period, trial and phase
abbrev pub Precedes : Candidate → Candidate → Type 0
Precedes (Pulse end delay width _) (Pulse end' delay' width' _) =
    IsBelow end end' (IsBelow delay delay' (width < width'))
Precedes (Pulse _ _ _ _) (Fold _ _ _ _ _ _) = ⊤
Precedes (Fold _ _ _ _ _ _) (Pulse _ _ _ _) = ⊥
Precedes (Fold delay period _ trial phase _) (Fold delay' period' _ trial' phase' _) =
    IsBelow delay delay' (IsBelow period period' (IsBelow trial trial' (phase < phase')))

-- each candidate of the list precedes all later ones
abbrev pub IsRising : List Candidate → Type 0
IsRising list = AllPairs Precedes list

-- the rising list of all that stand in one of the lists
pub record IsMergeOf (lists : List (List Candidate)) (merged : List Candidate) : Type 0 where
  pub rises : IsRising merged
  pub members : (c : Candidate) → Contains merged c ↔ Any (λ list. Contains list c) lists
