use Rattle.std.proofs.Common.{ℕ, ◌<◌}
use Rattle.ring_core.specs.Machine.{Holds}
use Rattle.ring_core.proofs.Core.holder.Given as goal

abbrev pub invariant-loop-j : goal.invariant-loop-j
invariant-loop-j l = (k : ℕ) → k < l.j → ¬ Holds l.self.machine k l.number
