use Rattle.std.proofs.Common.{ℕ, ◌<◌, ◌≤◌}
use Rattle.psr_beams.specs.Ends.{counted_in}
use Rattle.psr_beams.proofs.ends.first_crowded.Given as goal

-- those before have few candidates
abbrev pub invariant-loop-beam : goal.invariant-loop-beam
invariant-loop-beam l = (k : ℕ) → k < l.beam → counted_in l.ends k ≤ l.limit
