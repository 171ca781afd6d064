use Rattle.std.proofs.Common.{◌+◌, ◌-◌, ◌≤◌, replicate}
use Rattle.fdmt_rows.specs.Capped.{AreRaised}
use Rattle.fast_fold.specs.Excess.{ExcessUpTo}
use Rattle.fast_fold.proofs.tiles.greatest_excess.Given as goal

-- the phases so far were looked at
abbrev pub invariant-loop-start : goal.invariant-loop-start
invariant-loop-start l = record {
  raised : AreRaised (replicate 16 0) l.most (ExcessUpTo l.base l.values l.period l.halvings l.start);
  within : l.start ≤ l.period + 384;
}

abbrev pub decreases-loop-start : goal.decreases-loop-start
decreases-loop-start l = l.period - l.start
