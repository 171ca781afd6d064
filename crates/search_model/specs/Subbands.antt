-- Sums over a part of the band, a node of the halving tree.
-- Source: Zackay & Ofek, ApJ 835:11, 2017, section 2 (the partial sums of the transform), as sums of written-out cells.
use Rattle.std.specs.Prelude.{ℕ, ◌-◌, List, sum, sum_by}
use Rattle.std.specs.List.{range_with_len}
use Rattle.search_model.specs.Samples.{Filterbank}
use Rattle.search_model.specs.Paths.{entry}
use Rattle.search_model.specs.Sums.{cells_along}

-- the entry at edge k of the path of delay d over the channels from lo up to hi, which begins at 0
abbrev pub node_path : List ℕ → ℕ → ℕ → ℕ → ℕ → ℕ
node_path edges lo hi d k = entry 12 edges lo hi 0 d k

-- the sum over these channels along their path of delay d that ends `late` spectra before spectrum u
abbrev pub node_sum : Filterbank → List ℕ → ℕ → ℕ → ℕ → ℕ → ℕ → ℕ
node_sum f edges lo hi d u late =
    sum_by (λ c. sum (cells_along f (node_path edges lo hi d) d u late c))
    (range_with_len lo (hi - lo))
