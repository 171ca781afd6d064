use Rattle.std.proofs.Common.{All}
use Rattle.ring_bench.specs.Crew.{IsBack}
use Rattle.ring_bench.proofs.Gathering.{Gathered}
use Rattle.ring_bench.proofs.moving.gather.Given as goal

abbrev pub invariant-loop-number : goal.invariant-loop-number
invariant-loop-number l = All (IsBack l.ring) l.done.items × Gathered l.ring l.readers.items l.number
