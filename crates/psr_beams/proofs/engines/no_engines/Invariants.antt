use Rattle.std.proofs.Common.{◌≡◌, length}
use Rattle.psr_beams.proofs.engines.no_engines.Given as goal

-- as many slots as beams so far
abbrev pub invariant-loop-beam : goal.invariant-loop-beam
invariant-loop-beam l = length l.slots.items ≡ l._beam
