use Rattle.std.proofs.Common.{◌≡◌, ℕ, ◌≤◌, ◌+◌, ◌-◌, ◌*◌, All, sum, map, true}
use Rattle.std.specs.List.{range_with_len}
use Rattle.search_model.specs.Samples.{filterbank, sample_before}
use Rattle.band_paths.proofs.sums.channel_sum.Given as goal

abbrev pub invariant-loop-k : goal.invariant-loop-k
invariant-loop-k l =
    (l.total ≡ sum (map (λ k. sample_before (filterbank l.n true l.samples) l.c (l.u + k) (l.d + 0))
    (range_with_len l.first (l.k - l.first))))
    × ((m : ℕ) → All (λ x. x ≤ m) l.samples → l.total ≤ m * (l.k - l.first))
