use Rattle.std.proofs.Common.{◌+◌, ◌<◌, ◌≤◌, ℕ, All, take}
use Rattle.fold_search.specs.Judging.{Adds}
use Rattle.shard_search.specs.Thresholds.{pulses_of_hits}
use Rattle.shard_search.specs.PulseSearch.{HitIsKept}
use Rattle.shard_search.proofs.pulse_search.PulseSearch.report_end.Given as goal

-- the pulses of the first hits
abbrev pub invariant-loop-at : goal.invariant-loop-at
invariant-loop-at l = record {
  count : l.book.count ≤ l.fn.book.count + l.at;
  pulses : (y : ℕ → ℕ → ℕ) (n : ℕ) → l.k < n → All (HitIsKept y l.self.boxes l.start n) l.self.hits
      → Adds l.fn.book l.book
      (pulses_of_hits y l.self.search l.self.sought (l.start + l.k) (take l.at l.self.hits));
}
