use Rattle.std.proofs.Common.{◌≡◌}
use Rattle.rows_tests.proofs.boxes.are_right.Given as goal

abbrev pub invariant-loop-k : goal.invariant-loop-k
invariant-loop-k l = record { same : l.boxes ≡ l.fn.boxes }
