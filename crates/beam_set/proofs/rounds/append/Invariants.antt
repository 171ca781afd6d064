use Rattle.std.proofs.Common.{◌≡◌, ◌++◌, ◌+◌, ◌≤◌, length}
use Rattle.beam_set.proofs.rounds.append.Given as goal

abbrev pub invariant-loop-place : goal.invariant-loop-place
invariant-loop-place l = record {
  all : l.beams.items ++ l.rest.items ≡ l.fn.beams.items ++ l.fn.rest.items;
  count : l._place + length l.rest.items ≡ length l.fn.rest.items;
  few : length l.beams.items + length l.rest.items ≤ 7;
}
