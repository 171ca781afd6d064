use Rattle.std.proofs.Common.{ℕ, ◌<◌, [], None, map, get_or}
use Rattle.std.specs.Prelude.{IsSome}
use Rattle.candidate_book.specs.Conditions.{CanBeMerged}
use Rattle.book_bench.proofs.checks.can_be_written.Given as goal

-- the transfers so far can be written
abbrev pub invariant-loop-k : goal.invariant-loop-k
invariant-loop-k l = record {
  there : (j : ℕ) → j < l.k → IsSome (get_or l.observations j None);
  mergeable : (j : ℕ) → j < l.k → CanBeMerged (get_or (map (λ shards. shards.items) l.books) j []);
}
