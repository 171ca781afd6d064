use Rattle.std.proofs.Common.{◌≡◌, ℕ, ◌<◌, None}
use Rattle.psr_beams.specs.Ends.{stop_at_header, stop_in}
use Rattle.psr_beams.proofs.ends.first_header_stop.Given as goal

-- those before have no stop
abbrev pub invariant-loop-beam : goal.invariant-loop-beam
invariant-loop-beam l = (k : ℕ) → k < l.beam → stop_in stop_at_header l.ends k ≡ None
