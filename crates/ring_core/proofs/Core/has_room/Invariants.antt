use Rattle.std.proofs.Common.{ℕ, ◌+◌, ◌<◌, get_or}
use Rattle.ring_core.specs.Machine.{height}
use Rattle.ring_core.proofs.Core.has_room.Given as goal

abbrev pub invariant-loop-count : goal.invariant-loop-count
invariant-loop-count l = (k : ℕ) → k < l.count-index →
    height l.self.machine < get_or l.self.machine.low k 0 + l.self.shape.buffers
