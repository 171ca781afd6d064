use Rattle.std.proofs.Common.{◌≡◌}
use Rattle.rows_tests.proofs.boxes.are_fed.Given as goal

abbrev pub invariant-loop-count : goal.invariant-loop-count
invariant-loop-count l = record {
  first : l.boxes.first ≡ 3;
  last : l.boxes.last ≡ 5;
  chunk : l.boxes.chunk ≡ 16;
  widest : l.boxes.widest ≡ 32;
  bound : l.boxes.bound ≡ 1000;
}
