use Rattle.std.proofs.Common.{◌≡◌, ◌++◌, length}
use Rattle.beam_set.proofs.rounds.take_front.Given as goal

abbrev pub invariant-loop-place : goal.invariant-loop-place
invariant-loop-place l = record {
  all : l.front.items ++ l.beams.items ≡ l.fn.beams.items;
  count : length l.front.items ≡ l._place;
}
