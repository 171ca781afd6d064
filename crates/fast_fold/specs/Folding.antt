-- What a folder holds: sums of a series, folded by halves.
-- Source: Staelin, Proc. IEEE 57:724, 1969.
use Rattle.std.specs.Prelude.{ℕ, ◌+◌, ◌-◌, ◌*◌, ◌^◌, ◌≡◌, ◌<◌, List, take, drop, slice_index}
use Rattle.search_model.specs.Folds.{fold_sum}

-- what contracts see in a folder: the longest period and the most halvings that it has room for; the period and the
-- halvings of what was loaded, 0 before; how many halvings are done; its sums
pub record Folding : Type 0 where
  pub longest : ℕ
  pub most : ℕ
  pub period : ℕ
  pub halvings : ℕ
  pub level : ℕ
  pub sums : List ℕ

-- the rows of block b of 2^r rows of p values
abbrev pub block_of : List ℕ → ℕ → ℕ → ℕ → List ℕ
block_of series p r b = take (2 ^ r * p) (drop (b * (2 ^ r * p)) series)

-- the place of phase q of trial j of block b; a block has 2^r trials of p phases
abbrev pub sum_place : ℕ → ℕ → ℕ → ℕ → ℕ → ℕ
sum_place p r b j q = (b * 2 ^ r + j) * p + q

-- after r of m halvings, the sums of each block are the fold sums of all its trials and phases
pub record AreFolded (p m r : ℕ) (series sums : List ℕ) : Type 0 where
  pub fits : (k : ℕ) → k < 2 ^ m * p → slice_index series k * 2 ^ m < 2 ^ 32
  pub folded : (b j q : ℕ) → b < 2 ^ (m - r) → j < 2 ^ r → q < p
      → slice_index sums (sum_place p r b j q) ≡ fold_sum (block_of series p r b) p r j q

-- a folder holds the fold sums of a series
abbrev pub StandsForSeries : Folding → List ℕ → Type 0
StandsForSeries f series = AreFolded f.period f.halvings f.level series f.sums

-- a folder was loaded with 2^m rows of p values, and r halvings are done
pub record IsAt (f : Folding) (p m r : ℕ) : Type 0 where
  pub period : f.period ≡ p
  pub halvings : f.halvings ≡ m
  pub level : f.level ≡ r

-- a folder was loaded
abbrev pub IsLoaded : Folding → Type 0
IsLoaded f = 0 < f.halvings

-- both have room for the same
pub record HaveSameRoom (f g : Folding) : Type 0 where
  pub longest : f.longest ≡ g.longest
  pub most : f.most ≡ g.most

-- a block that begins the series has the fold sums of the series itself
abbrev pub FoldsSeeRows : Type 0
FoldsSeeRows = (series : List ℕ) (p r j q : ℕ) → 0 < p
    → fold_sum (block_of series p r 0) p r j q ≡ fold_sum series p r j q
