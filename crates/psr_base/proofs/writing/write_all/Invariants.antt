use Rattle.std.proofs.Common.{◌-◌, ◌≤◌, length, take}
use Rattle.psr_base.specs.Written.{WroteAll}
use Rattle.psr_base.proofs.writing.write_all.Given as goal

-- the sink has taken the first bytes
abbrev pub invariant-loop-taken : goal.invariant-loop-taken
invariant-loop-taken g l = record {
  within : l.taken ≤ length l.bytes;
  wrote : WroteAll (take l.taken l.bytes) (g.S.Sink.seen l.fn.sink) (g.S.Sink.seen l.sink);
}

abbrev pub decreases-loop-taken : goal.decreases-loop-taken
decreases-loop-taken g l = length l.bytes - l.taken
