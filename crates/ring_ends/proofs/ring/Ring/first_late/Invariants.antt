use Rattle.ring_ends.specs.Answers.{LookedAtFirst, SawPast}
use Rattle.ring_ends.specs.Passes.{writer_knows, WritesTo}
use Rattle.ring_ends.proofs.ring.Ring.first_late.Given as goal

abbrev pub invariant-loop-reader : goal.invariant-loop-reader
invariant-loop-reader l = WritesTo l.self l.pass × LookedAtFirst (writer_knows l.fn.pass) l.reader (writer_knows l.pass)
    × SawPast (writer_knows l.fn.pass) l.reader (writer_knows l.pass)
