use Rattle.std.proofs.Common.{◌+◌, ◌*◌, ◌≤◌, ℕ, All, length}
use Rattle.std.specs.List.{flat_map, range_with_len}
use Rattle.fold_search.specs.Judging.{Adds}
use Rattle.shard_search.specs.Thresholds.{pulses_of_hits}
use Rattle.shard_search.specs.PulseSearch.{HitIsKept}
use Rattle.shard_search.proofs.pulse_search.PulseSearch.report.Given as goal

-- the pulses of the first of these spectra
abbrev pub invariant-loop-k : goal.invariant-loop-k
invariant-loop-k l = record {
  count : l.book.count ≤ l.fn.book.count + l.k * length l.self.hits;
  pulses : (y : ℕ → ℕ → ℕ) → All (HitIsKept y l.self.boxes l.start l.spectra) l.self.hits → Adds l.fn.book l.book
      (flat_map (λ u. pulses_of_hits y l.self.search l.self.sought u l.self.hits) (range_with_len l.start l.k));
}
