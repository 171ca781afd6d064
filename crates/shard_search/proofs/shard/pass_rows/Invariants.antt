use Rattle.fdmt_carry.specs.Carrying.{StandsMidway, AreNext}
use Rattle.row_schedule.specs.Samples.{values_of}
use Rattle.search_model.specs.Samples.{Filterbank}
use Rattle.shard_search.specs.Sums.{GoOnAlike, HaveTaken, IsPassedTo, sums_of}
use Rattle.shard_search.proofs.shard.pass_rows.Given as goal

-- the rows of the first delays
abbrev pub invariant-loop-d : goal.invariant-loop-d
invariant-loop-d l = record {
  carry : IsPassedTo l.fn.carry l.carry l.d;
  alike : GoOnAlike l.fn.pulses l.pulses l.fn.folds l.folds l.first l.d;
  stands : (f : Filterbank) → StandsMidway l.fn.carry f → AreNext l.fn.carry f (values_of l.samples) l.fn.carry.last
      → StandsMidway l.carry f;
  taken : (f : Filterbank) → StandsMidway l.fn.carry f → AreNext l.fn.carry f (values_of l.samples) l.fn.carry.last
      → HaveTaken (sums_of f l.fn.carry.tables.plan.edges) l.fn.pulses l.fn.folds l.start l.fn.carry.last l.first
      → HaveTaken (sums_of f l.fn.carry.tables.plan.edges) l.pulses l.folds l.start l.fn.carry.last l.d;
}
