use Rattle.std.proofs.Common.{◌≡◌, replicate}
use Rattle.dada_recorder.proofs.changes.padded_number.Given as goal

abbrev pub invariant-loop : goal.invariant-loop
invariant-loop l = l.padded.bytes ≡ replicate l.counter 48
