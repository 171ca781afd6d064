-- Fold sums: the rows of a series, folded at a trial period.
-- Source: Staelin, Proc. IEEE 57:724, 1969 (the fast folding algorithm), written as the shift of each row by the bits
-- of its number.
use Rattle.std.specs.Prelude.{ℕ, ◌+◌, ◌-◌, ◌*◌, ◌/◌, ◌%◌, ◌^◌, ◌==◌, List, map, max, fold, filter, sum_by, slice_index, nat_le, if◌then◌else◌}
use Rattle.std.specs.List.{range_with_len}
use Rattle.search_model.specs.Samples.{Filterbank}
use Rattle.search_model.specs.Sums.{between, path_sum}

-- the series of delay d: the path sums that end at spectrum d and after it
abbrev pub series : Filterbank → List ℕ → ℕ → List ℕ
series f edges d = map (λ i. path_sum f edges (d + i) d) (range_with_len 0 (f.spectra - d))

-- the greatest m of 1 to `most` at which 2^m rows of p values fit into `room` values, or 0 where none does
abbrev pub halvings : ℕ → ℕ → ℕ → ℕ
halvings most p room = fold max 0 (filter (λ m. nat_le (2 ^ m * p) room) (between 1 most))

-- how far trial j shifts row i of 2^m rows: bit m - 1 - k of i, where it is set, adds half of floor(j / 2^k), halves
-- rounded up
abbrev pub shift : ℕ → ℕ → ℕ → ℕ
shift m j i =
    sum_by (λ k. if (i / 2 ^ (m - 1 - k)) % 2 == 1 then (j / 2 ^ k + 1) / 2 else 0)
    (range_with_len 0 m)

-- the sum of trial j at a phase: one value of each of 2^m rows of p values, the row shifted within itself;
-- trial j stands for the period p + j / (2^m - 1)
abbrev pub fold_sum : List ℕ → ℕ → ℕ → ℕ → ℕ → ℕ
fold_sum values p m j phase =
    sum_by (λ i. slice_index values (i * p + (phase + shift m j i) % p)) (range_with_len 0 (2 ^ m))
