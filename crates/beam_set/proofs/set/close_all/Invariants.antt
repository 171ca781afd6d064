use Rattle.std.proofs.Common.{◌≡◌, ◌+◌, length, drop}
use Rattle.beam_set.proofs.Closing.{ClosedUpTo}
use Rattle.beam_set.proofs.set.close_all.Given as goal

abbrev pub invariant-loop-place : goal.invariant-loop-place
invariant-loop-place l = record {
  rest : l.beams.items ≡ drop l._place l.fn.beams.items;
  left : l._place + length l.beams.items ≡ length l.fn.beams.items;
  count : length l.ends.items ≡ l._place;
  closed : ClosedUpTo l._place l.fn.beams.items l.ends.items;
}
