-- What fold sums have above a base, in 16 bits.
-- Source: this project's choice.
use Rattle.std.specs.Prelude.{ℕ, ◌-◌, ◌^◌, ◌<◌, ◌≤◌, List, map}
use Rattle.fdmt_rows.specs.Capped.{capped}
use Rattle.search_model.specs.Folds.{fold_sum}

-- what each value has above a base
abbrev pub excesses : ℕ → List ℕ → List ℕ
excesses base values = map (λ x. x - base) values

-- the sum of trial j at a phase, of what the values have above a base, in 16 bits
abbrev pub excess_sum : ℕ → List ℕ → ℕ → ℕ → ℕ → ℕ → ℕ
excess_sum base values p m j phase = capped (fold_sum (excesses base values) p m j phase)

-- no such sum of any trial is above a bound, at any of the first `phases` phases
abbrev pub ExcessUpTo : ℕ → List ℕ → ℕ → ℕ → ℕ → ℕ → Type 0
ExcessUpTo base values p m phases bound =
    (j q : ℕ) → j < 2 ^ m → q < phases → excess_sum base values p m j q ≤ bound

-- the greatest of all trials and phases
pub record IsGreatestExcess (base : ℕ) (values : List ℕ) (p m greatest : ℕ) : Type 0 where
  pub enough : ExcessUpTo base values p m p greatest
  pub least : (bound : ℕ) → ExcessUpTo base values p m p bound → greatest ≤ bound
