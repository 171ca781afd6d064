-- The delays at the edges of a band.
-- Source: Zackay & Ofek, ApJ 835:11, 2017, section 2 (a path through the channels); the bounds are this project's
-- choice.
use Rattle.dada_model.specs.Bounds.{most_delay}
use Rattle.std.specs.Prelude.{◌≡◌, ℕ, ◌+◌, ◌-◌, ◌^◌, ◌≤◌, ◌<◌, List, length, slice_index}

-- the greatest sample that is added up cell by cell
abbrev pub most_sample : ℕ
most_sample = 2 ^ 20

-- the number of channels between these edges
abbrev pub channels_of : List ℕ → ℕ
channels_of edges = length edges - 1

-- the delays of n channels at their edges, as a path has them: they begin at 0, never fall, and end at the longest
-- delay at most
pub record AreDelays (n : ℕ) (delays : List ℕ) : Type 0 where
  pub entries : length delays ≡ n + 1
  pub first : slice_index delays 0 ≡ 0
  pub rise : (c : ℕ) → c < n → slice_index delays c ≤ slice_index delays (c + 1)
  pub last : slice_index delays n ≤ most_delay

-- `after` has the entries of `before` at lo and below, and at hi and above
pub record KeepsOutside (lo hi : ℕ) (before after : List ℕ) : Type 0 where
  pub below : (k : ℕ) → k ≤ lo → slice_index after k ≡ slice_index before k
  pub above : (k : ℕ) → hi ≤ k → slice_index after k ≡ slice_index before k
