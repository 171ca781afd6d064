use Rattle.band_level.specs.Levelling.{pending}
use Rattle.psr_level.proofs.Drains.{Draining}
use Rattle.psr_level.proofs.drain.drain.Given as goal

abbrev pub invariant-loop-leveller : goal.invariant-loop-leveller
invariant-loop-leveller g l =
    Draining l.fn.leveller l.leveller (g.K.Sink.seen l.fn.out) (g.K.Sink.seen l.out)

abbrev pub decreases-loop-leveller : goal.decreases-loop-leveller
decreases-loop-leveller g l = pending l.leveller
