use Rattle.std.proofs.Common.{◌≡◌}
use Rattle.rows_tests.proofs.pieces.are_unpacked.Given as goal

abbrev pub invariant-loop-turn : goal.invariant-loop-turn
invariant-loop-turn l = l.unpacker.channels ≡ l.shape.channels
