-- Loops that write the values of a list one after another.
use Rattle.std.proofs.Common.{◌≡◌, ℕ, ◌<◌, ◌≤◌, List, slice_index}

-- the first n values are these, and all others stay
pub record Fills (old new : List ℕ) (n : ℕ) (value : ℕ → ℕ) : Type 0 where
  pub done : (k : ℕ) → k < n → slice_index new k ≡ value k
  pub rest : (k : ℕ) → n ≤ k → slice_index new k ≡ slice_index old k
