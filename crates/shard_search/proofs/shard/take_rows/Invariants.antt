use Rattle.fdmt_carry.specs.Carrying.{StandsForSamples}
use Rattle.search_model.specs.Samples.{Filterbank}
use Rattle.shard_search.specs.Sums.{GoOnAlike, HaveTaken, sums_of}
use Rattle.shard_search.proofs.shard.take_rows.Given as goal

-- the rows of the first delays
abbrev pub invariant-loop-d : goal.invariant-loop-d
invariant-loop-d l = record {
  alike : GoOnAlike l.fn.pulses l.pulses l.fn.folds l.folds l.first l.d;
  taken : (f : Filterbank) → StandsForSamples l.carry f
      → HaveTaken (sums_of f l.carry.tables.plan.edges) l.fn.pulses l.fn.folds l.start l.carry.last l.first
      → HaveTaken (sums_of f l.carry.tables.plan.edges) l.pulses l.folds l.start l.carry.last l.d;
}
