use Rattle.std.proofs.Common.{◌≡◌, length}
use Rattle.rows_tests.proofs.fed.bytes_of.Given as goal

abbrev pub invariant-loop-place : goal.invariant-loop-place
invariant-loop-place l = length l.bytes.items ≡ l.place
