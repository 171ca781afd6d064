use Rattle.fast_fold.specs.Folding.{IsAt, StandsForSeries}
use Rattle.crate_uses.proofs.folding.folded.Given as goal

abbrev pub invariant-loop-done : goal.invariant-loop-done
invariant-loop-done l = IsAt l.folder l.period l.halvings l.done × StandsForSeries l.folder l.series
