use Rattle.std.proofs.Common.{◌≡◌, ◌++◌, replicate}
use Rattle.psr_base.proofs.fixed.push_padded.Given as goal

abbrev pub invariant-loop : goal.invariant-loop
invariant-loop l = l.into.bytes ≡ l.fn.into.bytes ++ replicate l.counter 48
