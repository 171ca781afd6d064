-- What a step of a loop over a row leaves.
-- Source: this project's choice.
use Rattle.std.specs.Prelude.{ℕ, ◌≡◌, ◌<◌, ◌≤◌, List, slice_index}

-- the values from `from` on, up to `end`, are those given; all others stay
pub record Writes (old new : List ℕ) (from end : ℕ) (value : ℕ → ℕ) : Type 0 where
  pub before : (k : ℕ) → k < from → slice_index new k ≡ slice_index old k
  pub written : (k : ℕ) → from ≤ k → k < end → slice_index new k ≡ value k
  pub after : (k : ℕ) → end ≤ k → slice_index new k ≡ slice_index old k
