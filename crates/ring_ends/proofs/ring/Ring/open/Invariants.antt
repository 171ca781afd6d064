use Rattle.ring_ends.proofs.Opening.{Opening}
use Rattle.ring_ends.proofs.ring.Ring.open.Given as goal

abbrev pub invariant-loop-number : goal.invariant-loop-number
invariant-loop-number l = Opening l.ring l.initial.seats.items l.seats.items l._number l.readers.items
