-- Path sums and box sums.
-- Source: Zackay & Ofek, ApJ 835:11, 2017, section 2 (the dispersion transform), as sums of written-out cells of the
-- whole file: no table, tail or chunk.
use Rattle.std.specs.Prelude.{ℕ, ◌+◌, ◌-◌, List, map, sum, sum_by, slice_index}
use Rattle.std.specs.List.{range_with_len, flat_map}
use Rattle.search_model.specs.Samples.{Filterbank, sample_before}
use Rattle.search_model.specs.Paths.{path}

-- the numbers from a to b, both included
abbrev pub between : ℕ → ℕ → List ℕ
between a b = range_with_len a (b + 1 - a)

-- The cells of channel c on a path of delay d with the entry `e k` at edge k, where the path ends `late` spectra before
-- spectrum u: x(c, t) for t from u - late - d + e c to u - late - d + e (c + 1). A cell before the first spectrum is 0.
abbrev pub cells_along : Filterbank → (ℕ → ℕ) → ℕ → ℕ → ℕ → ℕ → List ℕ
cells_along f e d u late c =
    map (λ k. sample_before f c (u + k) (d + late)) (between (e c) (e (c + 1)))

-- the same where the entries are a list
abbrev pub channel_cells : Filterbank → List ℕ → ℕ → ℕ → ℕ → ℕ → List ℕ
channel_cells f e d u late c = cells_along f (λ k. slice_index e k) d u late c

-- all cells on that path, from the highest channel to the lowest
abbrev pub path_cells : Filterbank → List ℕ → ℕ → ℕ → ℕ → List ℕ
path_cells f e d u late = flat_map (λ c. channel_cells f e d u late c) (range_with_len 0 f.channels)

-- S(u - late, d) along the path e of delay d
abbrev pub path_sum_along : Filterbank → List ℕ → ℕ → ℕ → ℕ → ℕ
path_sum_along f e d u late = sum (path_cells f e d u late)

-- S(u - late, d), which is 0 before the first spectrum
abbrev pub late_path_sum : Filterbank → List ℕ → ℕ → ℕ → ℕ → ℕ
late_path_sum f edges u d late = path_sum_along f (path edges f.channels d) d u late

-- S(u, d), which has n + d cells
abbrev pub path_sum : Filterbank → List ℕ → ℕ → ℕ → ℕ
path_sum f edges u d = late_path_sum f edges u d 0

-- B(u, d, w): the sum of the w path sums that end at u and before it; it has w (n + d) cells
abbrev pub box_sum : Filterbank → List ℕ → ℕ → ℕ → ℕ → ℕ
box_sum f edges u d w = sum_by (λ k. late_path_sum f edges u d k) (range_with_len 0 w)
