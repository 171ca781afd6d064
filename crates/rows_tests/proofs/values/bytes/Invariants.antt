use Rattle.std.proofs.Common.{◌≡◌, vec_len}
use Rattle.rows_tests.proofs.values.bytes.Given as goal

abbrev pub invariant-loop-done : goal.invariant-loop-done
invariant-loop-done l = vec_len l.bytes ≡ l.done
