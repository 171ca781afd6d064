use Rattle.std.proofs.Common.{All, IsSomeAnd, length}
use Rattle.ring_ends.specs.Passes.{ReadsFrom}
use Rattle.ring_bench.specs.Crew.{IsAt}
use Rattle.ring_bench.proofs.moving.open_jobs.Given as goal

abbrev pub invariant-loop-next : goal.invariant-loop-next
invariant-loop-next l = All (λ o. IsSomeAnd o (ReadsFrom l.ring)) l.readers.items × All (IsAt l.ring) l.jobs.items

abbrev pub decreases-loop-next : goal.decreases-loop-next
decreases-loop-next l = length l.readers.items
