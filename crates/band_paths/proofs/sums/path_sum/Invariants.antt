use Rattle.std.proofs.Common.{◌≡◌, ℕ, ◌≤◌, ◌+◌, ◌*◌, All, map, sum, slice_index, true}
use Rattle.std.specs.List.{range_with_len}
use Rattle.search_model.specs.Samples.{filterbank}
use Rattle.search_model.specs.Sums.{channel_cells}
use Rattle.band_paths.proofs.sums.path_sum.Given as goal

abbrev pub invariant-loop-c : goal.invariant-loop-c
invariant-loop-c l =
    (l.total ≡ sum (map (λ c.
    sum (channel_cells (filterbank l.n true l.samples) l.delays (slice_index l.delays l.n) l.u 0 c))
    (range_with_len 0 l.c)))
    × ((m : ℕ) → All (λ x. x ≤ m) l.samples → l.total ≤ m * (l.c + slice_index l.delays l.c))
