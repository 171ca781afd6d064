use Rattle.ring_words.specs.Seats.{Writes, writer_view}
use Rattle.ring_ends.specs.Passes.{writer_knows}
use Rattle.ring_ends.proofs.Joining.{Joining}
use Rattle.ring_ends.proofs.ring.Ring.finish.Given as goal

abbrev pub invariant-loop-number : goal.invariant-loop-number
invariant-loop-number l = Writes l.words l.seat × Joining l.fn.readers.items l.readers.items l._number
    (writer_knows l.fn.writer) (writer_view l.seat) l.counts
