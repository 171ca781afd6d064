use Rattle.std.proofs.Common.{◌≡◌, length}
use Rattle.rows_tests.proofs.fed.Fed.rows.Given as goal

abbrev pub invariant-loop-place : goal.invariant-loop-place
invariant-loop-place l = length l.rows.items ≡ l.place
